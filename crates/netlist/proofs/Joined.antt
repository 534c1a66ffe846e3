-- What was gathered, and what is coming.
use Rattle.std.proofs.Common.{◌≡◌, ℕ, ◌+◌, ◌<◌, ◌≤◌, List, length, Some, Ok, Err, Option, Result, refl, subst, append_assoc, arith, length-append}
use Rattle.netlist.specs.declared.record.Record.{Record}
use Rattle.netlist.specs.Faults.{before, join, nothing, verdict}
use Rattle.netlist.specs.declared.refusal.Refusal.{Refusal}
use Rattle.netlist.specs.Layout.{Contents}
use Rattle.netlist.specs.Scans.{Next, Shorter, held}
use Rattle.netlist.specs.declared.record.Record.TheVariants.{Module as AModule, Channel as AChannel, Size as ASize}
use Rattle.netlist.specs.declared.channel.Channel.{Channel}

pub before_before : {E : Type 0} (a b : Contents) (x : Result Contents E) → before a (before b x) ≡ before (join a b) x
before_before a b (Ok c) = simp append_assoc
before_before a b (Err e) = refl

-- One more record.
pub gathers_more : {E : Type 0} (file : Result Contents E) (a b : Contents) (r : Record) (was is : Result Contents E) → file ≡ before a was → was ≡ before (held r) is → b ≡ join a (held r) → file ≡ before b is
gathers_more file a b r was is f w j = rw (f, w, j) (before_before a (held r) is)

-- No record yet.
pub gathers_none : {E : Type 0} (x : Result Contents E) → x ≡ before nothing x
gathers_none (Ok c) = refl
gathers_none (Err e) = refl

-- What a call of `next` promised, where it gave a record.
pub next_some : {E : Type 0} (o : Option Record) (r : Record) (was is : Result Contents E) → o ≡ Some r → Next was (Ok o) is → was ≡ before (held r) is
next_some o r was is e h = subst (λ (p : Option Record). Next was (Ok p) is) e h

shorter_some : (o : Option Record) (r : Record) (was is : List ℕ) → o ≡ Some r → Shorter {E = Refusal} was (Ok o) is → length is < length was
shorter_some o r was is e h = subst (λ (p : Option Record). Shorter {E = Refusal} was (Ok p) is) e h

-- So many channels have been read, before what is to come. Each took a byte at least, so that the count fits.
abbrev pub Counted : List ℕ → Result Contents Refusal → List ℕ → ℕ → Type 0
Counted file coming rest e =
    (e + length rest ≤ length file) × ((g : Contents) × (verdict file ≡ before g coming) × (e ≡ length g.channels))

pub counted_more : (file : List ℕ) (was is : Result Contents Refusal) (rest less : List ℕ) (e n : ℕ) (o : Option Record) (r : Record)
    → Counted file was rest e → o ≡ Some r → Next was (Ok o) is → Shorter {E = Refusal} rest (Ok o) less
    → length (held r).channels ≤ 1 → n ≡ e + length (held r).channels → Counted file is less n
counted_more file was is rest less e n o r h s next shorter one sum =
    let g = h.1.0 in (
      omega (arith, h.0, shorter_some o r rest less s shorter),
      (
        join g (held r),
        gathers_more (verdict file) g (join g (held r)) r was is h.1.1 (next_some o r was is s next) refl,
        simp length-append (omega (arith, h.1.2)),
      ),
    )

pub one_channel_held : (r : Record) (c : Channel) → r ≡ AChannel c → length (held r).channels ≡ 1
one_channel_held r c is = rw is refl

pub no_channel_held : (r : Record) → ((c : Channel) → r ≡ AChannel c → ⊥) → length (held r).channels ≡ 0
no_channel_held (AModule kind name) h = refl
no_channel_held (AChannel c) h = absurd (h c refl)
no_channel_held (ASize s) h = refl
