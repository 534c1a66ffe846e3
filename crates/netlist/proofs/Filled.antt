-- The netlist and the sizing that are filled.
use Rattle.std.proofs.Common.{◌≡◌, ℕ, ◌≤◌, List, map, length, Ok, Result, refl, ap, ◌∙◌, le-leb}
use Rattle.std.proofs.lemmas.List.{length-map}
use Rattle.netlist.specs.declared.netlist.Module.{Module}
use Rattle.netlist.specs.declared.channel.Channel.{Channel}
use Rattle.netlist.specs.Faults.{verdict}
use Rattle.netlist.specs.Layout.{Contents}
use Rattle.netlist.specs.Gathers.{Judges}
use Rattle.netlist.specs.Holds.{entry_of, whole_verdict}
use Rattle.netlist.specs.declared.refusal.Refusal.{Refusal}
use Rattle.netlist.proofs.Kept.{Kept}

pub kept_netlist : (n : ℕ) (ms : List Module) (cs : List Channel) → n ≡ length ms → Kept (length (map entry_of ms)) cs → Kept n cs
kept_netlist n ms cs e k = rw e (rw length-map at k)

pub fits_verdict : (file : List ℕ) (room : ℕ) (c : Contents) → verdict file ≡ Ok c → length c.channels ≤ room → whole_verdict file room ≡ Ok c
fits_verdict file room c e l = rw (e, le-leb (length c.channels) room l) refl

-- The channels that were counted are those that were gathered.
pub same_count : (v : Result Contents Refusal) (e : ℕ) (c : Contents) → Judges v (Ok e) → v ≡ Ok c → e ≡ length c.channels
same_count v e c j h = let same : j.0 ≡ c = cc j.1 in j.2 ∙ ap (λ (d : Contents). length d.channels) same
