-- Two blocks without a channel: the second is not joined to the first. Assumes nothing.
use Rattle.std.proofs.Common.{◌≡◌, ℕ, zero, suc, ◌-◌, [], ◌∷◌, get_or, refl, ◌∙◌, inl, inr, arith}
use Rattle.checking.specs.Faults.{Apart, Loose, Lowest, Nobody}
use Rattle.checking.specs.Verdicts.{Refused}
use Rattle.netlist.specs.declared.kind.Kind.{Kind}
use Rattle.netlist.specs.declared.kind.Kind.TheVariants.{Block, RelayStation}
use Rattle.netlist.specs.declared.netlist.Netlist.{Netlist}
use Rattle.netlist.specs.declared.refusal.Cause.TheVariants.{NotJoined}
use Rattle.netlist.specs.Holds.{modules}
use Rattle.worked.specs.Netlists.{Made, Pair}
use Rattle.worked.specs.Rows.{refusal}
use Rattle.worked.proofs.Holding.{channels_are, kind_is, modules_are}

two_blocks : (k : ℕ) → get_or (Block ∷ Block ∷ []) k Block ≡ Block
two_blocks zero = refl
two_blocks (suc zero) = refl
two_blocks (suc (suc k)) = refl

block_or_relay : (k : Kind) → k ≡ Block → k ≡ RelayStation → ⊥
block_or_relay k is is_not = let z : ◌≡◌ {A = ℕ} 0 1 = cc in omega arith

module _ (n : Netlist) (made : Made Pair n) where
  not_loose : Nobody (modules n) (Loose n)
  not_loose v within loose = block_or_relay _ (kind_is Pair n made v ∙ two_blocks (v - 1)) loose.0

  apart : Apart n 2
  apart [] same = omega (arith, same)
  apart (e ∷ es) way = omega (arith, way.1.0, channels_are Pair n made)

  lowest : Lowest (modules n) (Apart n) 2
  lowest = record {
    within = omega (arith, modules_are Pair n made);
    has = apart;
    none_lower = λ u within lower apart_1. apart_1 [] (omega (arith, within));
  }

  pub pair : Refused n (refusal NotJoined 2)
  pair = inr (inl (refl, not_loose, lowest))
