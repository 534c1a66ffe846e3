-- The bounds of the extended graph, said of lists of calls. Assumes nothing.
use Rattle.std.proofs.Common.{ℕ, ◌+◌, ◌-◌, ◌*◌, ◌<◌, List, length, ⊎_elim, arith}
use Rattle.std.proofs.lemmas.Bool.{cases_lt}
use Rattle.netlist.specs.Holds.{modules}
use Rattle.marked.specs.Graphs.{Cycle, tokens_on}
use Rattle.rating.specs.Extended.{graph_of}
use Rattle.firing.specs.Firings.{held_steps}
use Rattle.firing.proofs.Steps.{behind}
use Rattle.firing.proofs.Steps.{no_setback as setback_there}
use Rattle.firing.proofs.Lower.{lower, reached}
use Rattle.firing.proofs.Upper.{upper, missed}
use Rattle.counts.specs.Nets.{largest, net_of}
use Rattle.counts.proofs.Bridges.{freely_alike}
use Rattle.counts.proofs.Joining.{in_one_piece_at_largest}
use Rattle.counts.proofs.Rated.{rating_knows}
use Rattle.calls.specs.Calls.{counted}
use Rattle.calls.specs.Laws.{FallsBehind, KeepsItsRate, KeepsTargets, MissesTargets, NoSetback, NotBehind}
use Rattle.calls.proofs.Agreeing.{agreed, fired_as}

pub not_behind : NotBehind
not_behind n sizing sized calls others less v m =
    let a = agreed n sizing sized calls in
    let b = agreed n sizing sized others in
    omega (
      arith,
      fired_as n sizing sized calls v m,
      fired_as n sizing sized others v m,
      behind (graph_of n sizing) b.0 a.0 (omega (arith, less, a.1.steps, a.1.held, b.1.steps)) (v - 1),
    )

pub no_setback : NoSetback
no_setback n sizing sized calls v m =
    let a = agreed n sizing sized calls in
    rw (a.1.steps, a.1.held, fired_as n sizing sized calls v m, freely_alike n sizing sized (length a.0 - held_steps a.0) v m)
    (setback_there (graph_of n sizing) a.0 (v - 1))

pub keeps_its_rate : KeepsItsRate
keeps_its_rate r h calls v m =
    let n = r.netlist.now in
    let sizing = r.sizing.now in
    let a = agreed n sizing h.sized calls in
    let is = fired_as n sizing h.sized calls v m in (
      rw (a.1.steps, a.1.held, is) (lower (modules n) r.rate.0 r.rate.1 (graph_of n sizing) (rating_knows r h) a.0 (v - 1) (omega (arith, m.0, m.1))),
      rw (a.1.steps, is) (upper (modules n) (largest sizing) (graph_of n sizing) (in_one_piece_at_largest n sizing h.passed h.sized) r.rate.0 r.rate.1 h.is_rate a.0 (v - 1) (omega (arith, m.0, m.1))),
    )

pub keeps_targets : KeepsTargets
keeps_targets r h x y up calls v m =
    let n = r.netlist.now in
    let sizing = r.sizing.now in
    let a = agreed n sizing h.sized calls in
    rw (a.1.steps, a.1.held, fired_as n sizing h.sized calls v m)
    (reached (modules n) r.rate.0 r.rate.1 x y (graph_of n sizing) (rating_knows r h) up a.0 (v - 1) (omega (arith, m.0, m.1)))

-- Were it not so, no cycle could be slow.
pub misses_targets : MissesTargets
misses_targets n sizing passed sized x y proper never calls long v m =
    let a = agreed n sizing sized calls in
    let G = graph_of n sizing in
    let by_cycle : (c : List ℕ) → Cycle G c → y * tokens_on G c < x * length c → FallsBehind x y (net_of n sizing) calls v = λ c cycle slow.
    rw (a.1.steps, fired_as n sizing sized calls v m)
    (missed (modules n) (largest sizing) G (in_one_piece_at_largest n sizing passed sized) x y proper c cycle slow a.0 (v - 1) (omega (arith, m.0, m.1)) (rw a.1.steps at long)) in
    ⊎_elim (λ (less : FallsBehind x y (net_of n sizing) calls v). less)
    (λ not-less. absurd (never (λ c cycle. ⊎_elim (λ slow. absurd (omega (arith, not-less, by_cycle c cycle slow))) (λ fine. fine) (cases_lt (y * tokens_on G c) (x * length c)))))
    (cases_lt (y * (counted (net_of n sizing) calls).firings v + x * modules n) (x * ((counted (net_of n sizing) calls).steps + 1)))
