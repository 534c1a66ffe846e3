use Rattle.std.proofs.Common.{[], ◌∷◌, refl, arith}
use native.Mathlib.Nat.{dvd-sub, eq-one_of_dvd-one}
use Rattle.worked.proofs.Checking.{pair}
use Rattle.worked.proofs.Rating.{d_cycle, d_potential, d_rate, d_shown, alone}
use Rattle.worked.proofs.Reading.{files, read}
use Rattle.worked.proofs.Running.{run}
use Rattle.worked.proofs.Sizing.{no_slot, one_slot, ring}
use Rattle.worked.proofs.worked_netlists_hold.Goals as goal

pub returns : goal.returns
returns c = record {
  files = files;
  read = read;
  d = λ n made. record {
    rate = d_rate n made _ _ (λ d three four. eq-one_of_dvd-one (dvd-sub d four three)) (omega arith) (omega arith) refl refl;
    cycle = record { walk = d_cycle; shown = d_shown n made; numbers = refl };
    potentials = d_potential n made;
    on_channel_1 = one_slot n made _ (0 ∷ 1 ∷ 1 ∷ 0 ∷ []) refl refl refl refl refl;
    on_channel_2 = one_slot n made _ (0 ∷ 0 ∷ 1 ∷ 0 ∷ []) refl refl refl refl refl;
    no_slot = no_slot n made;
  };
  ring = ring;
  alone = alone;
  pair = pair;
  run = run;
}
