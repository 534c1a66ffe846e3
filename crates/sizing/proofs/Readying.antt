-- A search may start at every table between one where it may and the caps.
use Rattle.std.proofs.Common.{◌≡◌, ℕ, ◌+◌, ◌<◌, List, length, get_or, ◌∙◌, arith}
use Rattle.netlist.specs.declared.netlist.Netlist.{Netlist}
use Rattle.netlist.specs.Holds.{channels}
use Rattle.rating.proofs.Sizes.{bad_none, sized, sizing_fits}
use Rattle.sizing.specs.Candidates.{AtLeast}
use Rattle.sizing.specs.Trials.{Low, Ready}
use Rattle.sizing.proofs.Tables.{raised, set_above, set_below}

module _ (n : Netlist) (caps s t : List ℕ) (low : Low caps) (ready : Ready n caps s) where
  pub ready_between : AtLeast s t → AtLeast t caps → Ready n caps t
  ready_between above under =
      let fits = sizing_fits (channels n) s ready.sized in
      record {
        sized = sized (channels n) t (omega (arith, fits.0, above.lengths))
            ∙ bad_none 1 t (λ i l. (omega (arith, fits.1 i (omega (arith, above.lengths)), above.places i), omega (arith, under.places i, low i)));
        under = under;
      }

-- the table that the guard lends: `now`, which is s, with a slot more at e
pub ready_raised : (n : Netlist) (caps s now deep : List ℕ) (e : ℕ) → Low caps → Ready n caps s → now ≡ s → deep ≡ raised now e
    → e < length now → get_or now e 0 < get_or caps e 0 → Ready n caps deep
ready_raised n caps s now deep e low ready same is h d =
    rw is (ready_between n caps now (raised now e) low (rw same ready) (set_above now caps e (get_or now e 0 + 1) h (omega arith))
    (set_below now caps e (get_or now e 0 + 1) h (rw same ready.under) (omega arith)))
