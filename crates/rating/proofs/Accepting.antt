-- What an accepted rating holds.
use Rattle.std.proofs.Common.{◌≡◌, ℕ, ◌≤◌, false, ◌||◌, ltb, List, length, get_or, ℤ, pos, None, sym, refl, subst₂, arith}
use Rattle.std.proofs.lemmas.Bool.Decides.{nat_tests}
use Rattle.checking.specs.Verdicts.{Passed}
use Rattle.netlist.specs.declared.netlist.Netlist.{Netlist}
use Rattle.netlist.specs.Holds.{channels, modules}
use Rattle.rating.specs.declared.rating.Rating.{Rating}
use Rattle.rating.specs.Extended.{graph_of}
use Rattle.rating.specs.Ratings.{Accepted, Rates, rating_fault}
use Rattle.rating.specs.Sizings.{sizing_fault}

enough : (n room space : ℕ) → n ≤ room → n ≤ space → (ltb room n || ltb space n) ≡ false
enough n room space a b = grind (arith, nat_tests)

-- there is no fault where the sizing has none and both lists are long enough
no_fault : (n : Netlist) (sizing : List ℕ) (room space : ℕ) → sizing_fault (channels n) sizing ≡ None → modules n ≤ room → modules n ≤ space → rating_fault n sizing room space ≡ None
no_fault n sizing room space s a b = rw (s, enough (modules n) room space a b) refl

module _ (r : Rating) (cycle cycle' : List ℕ) (potentials potentials' : List ℤ) where
  abbrev Of : Netlist → List ℕ → Type 0
  Of n sizing = Accepted n sizing cycle cycle' potentials potentials' r

  -- what was found of a netlist and its sizing
  pub record Made (n : Netlist) (sizing : List ℕ) : Type 0 where
    pub passed : Passed n
    pub sized : sizing_fault (channels n) sizing ≡ None
    pub space : modules n ≤ length cycle
    pub room : modules n ≤ length potentials
    pub rates : Rates (modules n) (graph_of n sizing) r.rate.0 r.rate.1 r.length cycle cycle' potentials potentials'

  accepted_own : Made r.netlist.now r.sizing.now → Of r.netlist.now r.sizing.now
  accepted_own m =
      record {
        no_fault = no_fault r.netlist.now r.sizing.now (length cycle) (length potentials) m.sized m.space m.room;
        netlist = refl;
        sizes = refl;
        holds = record {
          passed = m.passed;
          sized = m.sized;
          is_rate = m.rates.is_rate;
          short = m.rates.short;
          potential = λ v l. (get_or potentials' v (pos 0), m.rates.potential v l, (m.rates.range v l).0, (m.rates.range v l).1);
        };
        lists = m.rates;
      }

  -- the same of the netlist and the sizing that the rating was made of
  pub accepted : (n : Netlist) (sizing : List ℕ) → r.netlist.now ≡ n → r.sizing.now ≡ sizing → Made n sizing → Of n sizing
  accepted n sizing e f m = subst₂ Of e f (accepted_own (subst₂ Made (sym e) (sym f) m))
