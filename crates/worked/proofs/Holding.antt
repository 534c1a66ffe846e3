-- What a netlist with given kinds and channels makes: its graph and its net, without the netlist. Assumes nothing.
use Rattle.std.proofs.Common.{◌≡◌, ℕ, zero, suc, ◌-◌, List, [], ◌∷◌, length, get_or, vec_items, refl, ap, ◌∙◌, arith}
use mathlib.Core.Path.{fun_ext}
use Rattle.std.proofs.lemmas.List.{length-map}
use Rattle.marked.specs.declared.place.Place.{Place}
use Rattle.netlist.specs.declared.channel.Channel.{Channel}
use Rattle.netlist.specs.declared.kind.Kind.{Kind}
use Rattle.netlist.specs.declared.kind.Kind.TheVariants.{Block}
use Rattle.netlist.specs.declared.netlist.Netlist.{Netlist}
use Rattle.netlist.specs.Holds.{channels, channels_of, entry_of, kind_of, modules, modules_of}
use Rattle.netlist.specs.Layout.{Contents, Entry}
use Rattle.rating.specs.Extended.{extended, graph_of}
use Rattle.counts.specs.Nets.{Net, is_block, net_of}
use Rattle.worked.specs.Netlists.{Made, kinds_of}

-- the kind of module v among these, and the graph and the net of these kinds and channels
abbrev pub kind_among : List Kind → ℕ → Kind
kind_among ks v = get_or ks (v - 1) Block

abbrev pub graph_by : Contents → List ℕ → List Place
graph_by c sizing = extended (kind_among (kinds_of c.modules)) c.channels sizing

abbrev pub net_by : Contents → List ℕ → Net
net_by c sizing = record {
  modules = length c.modules;
  channels = length c.channels;
  block = λ v. is_block (kind_among (kinds_of c.modules) v);
  source = λ e. (get_or c.channels e (record { source = 0; sink = 0 })).source;
  sink = λ e. (get_or c.channels e (record { source = 0; sink = 0 })).sink;
  size = λ e. get_or sizing e 0;
}

kind_at : (ms : List Entry) (k : ℕ) → (get_or ms k (record { kind = Block; name = [] })).kind ≡ get_or (kinds_of ms) k Block
kind_at [] k = refl
kind_at (m ∷ ms) zero = refl
kind_at (m ∷ ms) (suc k) = kind_at ms k

module _ (c : Contents) (n : Netlist) (made : Made c n) where
  pub kind_is : (v : ℕ) → kind_of n v ≡ kind_among (kinds_of c.modules) v
  kind_is v = kind_at (modules_of n) (v - 1) ∙ ap (λ (ks : List Kind). kind_among ks v) made.kinds

  pub modules_are : modules n ≡ length c.modules
  modules_are = omega (
    arith,
    n.modules.ok.0,
    length-map (vec_items n.modules) entry_of,
    length-map (modules_of n) (λ (m : Entry). m.kind),
    length-map c.modules (λ (m : Entry). m.kind),
    ap length made.kinds,
  )

  pub channels_are : channels n ≡ length c.channels
  channels_are = omega (arith, n.channels.ok.0, ap length made.channels)

  pub graph_is : (sizing : List ℕ) → graph_of n sizing ≡ graph_by c sizing
  graph_is sizing =
      ap (λ (kind : ℕ → Kind). extended kind (channels_of n) sizing) (fun_ext kind_is)
      ∙ ap (λ (cs : List Channel). extended (kind_among (kinds_of c.modules)) cs sizing) made.channels

  pub net_is : (sizing : List ℕ) → net_of n sizing ≡ net_by c sizing
  net_is sizing = λ i. record {
    modules = modules_are i;
    channels = channels_are i;
    block = λ v. is_block (kind_is v i);
    source = λ e. (get_or (made.channels i) e (record { source = 0; sink = 0 })).source;
    sink = λ e. (get_or (made.channels i) e (record { source = 0; sink = 0 })).sink;
    size = λ e. get_or sizing e 0;
  }
