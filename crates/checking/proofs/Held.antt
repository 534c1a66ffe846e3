-- What is read of a netlist: kinds, and the ends of channels. Assumes nothing.
use Rattle.std.proofs.Common.{◌≡◌, ℕ, ◌+◌, ◌-◌, ◌<◌, Bool, true, false, List, length, get_or, Decides, sym, refl, ap, subst, ⊎_elim, arith}
use Rattle.std.proofs.lemmas.Bool.{false≢true}
use Rattle.std.specs.Bool.{MatchBool}
use Rattle.std.specs.Int.{IsInRange}
use Rattle.std.specs.List.{AllWithin, HoldsAt}
use Rattle.netlist.specs.Holds.{channels_of}
use Rattle.netlist.specs.declared.channel.Channel.{Channel}
use Rattle.netlist.specs.declared.netlist.Netlist.{Netlist}
use Rattle.checking.specs.Links.{Step, Takes}
use Rattle.netlist.specs.Holds.{channel, channels, modules}
use Rattle.checking.specs.declared.link.Link.{Link}
use Rattle.checking.specs.declared.link.Link.TheVariants.{EitherWay, Relays}

-- the ends of a channel are modules
sink_in : (n : Netlist) (e : ℕ) → IsInRange 1 (channels n) e → IsInRange 1 (modules n) (channel n e).sink
sink_in n e h = n.sinks (e - 1) (record { source = 0; sink = 0 }) (omega (arith, h.0, h.1, n.channels.ok.0))

pub source_in : (n : Netlist) (e : ℕ) → IsInRange 1 (channels n) e → IsInRange 1 (modules n) (channel n e).source
source_in n e h = n.sources (e - 1) (record { source = 0; sink = 0 }) (omega (arith, h.0, h.1, n.channels.ok.0))

-- so a step leads to a module
pub step_in : (link : Link) (n : Netlist) (e u v : ℕ) → Step link n e u v → IsInRange 1 (modules n) v
step_in EitherWay n e u v s =
    ⊎_elim
    (λ f. subst (IsInRange 1 (modules n)) f.1 (sink_in n e s.0))
    (λ f. subst (IsInRange 1 (modules n)) f.0 (source_in n e s.0))
    s.1
step_in Relays n e u v s = subst (IsInRange 1 (modules n)) s.1.0.1 (sink_in n e s.0)

-- a channel that stands in the list, from 0, makes a step by its number, from 1
pub step_taken : (link : Link) (n : Netlist) (xs : List Channel) (k u v : ℕ) → xs ≡ channels_of n → k < length xs → Takes link n (get_or xs k (record { source = 0; sink = 0 })) u v → (e : ℕ) × Step link n e u v
step_taken link n xs k u v same h t =
    let at : k ≡ k + 1 - 1 = omega arith in (
      k + 1,
      (
        (omega arith, omega (arith, ap length same, n.channels.ok.0)),
        subst (λ j. Takes link n (get_or (channels_of n) j (record { source = 0; sink = 0 })) u v) at (subst (λ ys. Takes link n (get_or ys k (record { source = 0; sink = 0 })) u v) same t),
      ),
    )

-- whether some channel in the list makes a step, by what a search through it found
pub some_step : (link : Link) (n : Netlist) (xs : List Channel) (u v : ℕ) (r : Bool) → xs ≡ channels_of n
    → MatchBool r ((k : ℕ) × (k < length xs) × HoldsAt (λ c. Takes link n c u v) xs k) (AllWithin (λ c. Takes link n c u v → ⊥) xs 0 (length xs)) → Decides r ((e : ℕ) × Step link n e u v)
some_step link n xs u v true same found = ((λ y. step_taken link n xs found.0 u v same found.1 (found.2 _)), (λ s. refl))
some_step link n xs u v false same none = (
  (λ y. absurd (false≢true y)),
  (λ s.
      let within : s.0 - 1 < length xs = omega (arith, s.1.0.0, s.1.0.1, ap length same, n.channels.ok.0) in
      absurd (none (s.0 - 1) (record { source = 0; sink = 0 }) (omega arith) within (subst (λ ys. Takes link n (get_or ys (s.0 - 1) (record { source = 0; sink = 0 })) u v) (sym same) s.1.1))),
)
