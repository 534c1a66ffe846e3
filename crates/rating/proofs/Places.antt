-- The places of one channel more, and what holds of all places.
use Rattle.std.proofs.Common.{◌≡◌, ℕ, suc, ◌+◌, ◌-◌, ◌*◌, ◌<◌, ◌≤◌, List, [], ◌∷◌, ◌++◌, length, get_or, take, set, vec_items, sym, refl, ap, ◌∙◌, append_assoc, arith, length-set}
use Rattle.std.proofs.lemmas.List.{get_or_default, get_or-map, length-take-le, take_more, take_more_set}
use Rattle.std.specs.List.{AllByRecursion}
use Rattle.marked.specs.declared.place.Place.{Place}
use Rattle.netlist.specs.declared.channel.Channel.{Channel}
use Rattle.netlist.specs.declared.kind.Kind.{Kind}
use Rattle.netlist.specs.declared.netlist.Module.{Module}
use Rattle.netlist.specs.declared.netlist.Netlist.{Netlist}
use Rattle.netlist.specs.Holds.{channels_of, entry_of, kind_of}
use Rattle.netlist.specs.Layout.{Entry}
use Rattle.rating.specs.Extended.{backward, extended, forward}

extended_push : (kind : ℕ → Kind) (cs : List Channel) (qs : List ℕ) (c : Channel) (q : ℕ) → length cs ≡ length qs
    → extended kind (cs ++ c ∷ []) (qs ++ q ∷ []) ≡ extended kind cs qs ++ (forward kind c ∷ backward kind c q ∷ [])
extended_push kind [] [] c q l = refl
extended_push kind [] (r ∷ qs) c q l = absurd (omega arith)
extended_push kind (d ∷ cs) [] c q l = absurd (omega arith)
extended_push kind (d ∷ cs) (r ∷ qs) c q l = rw (extended_push kind cs qs c q (omega arith)) refl

-- the places written so far, and those of one channel more
pub extended_more : (kind : ℕ → Kind) (cs : List Channel) (qs : List ℕ) (i : ℕ) (c : Channel) (places : List Place) (there back : Place)
    → length qs ≡ length cs → i < length cs → c ≡ get_or cs i c → 2 * length qs ≤ length places
    → there ≡ forward kind c → back ≡ backward kind c (get_or qs i 0)
    → take (2 * i) places ≡ extended kind (take i cs) (take i qs)
    → take (2 * (i + 1)) (set (set places (2 * i) there) (2 * i + 1) back) ≡ extended kind (take (i + 1) cs) (take (i + 1) qs)
extended_more kind cs qs i c places there back same l is room f b h =
    let n : 2 * (i + 1) ≡ (2 * i + 1) + 1 = omega arith in
    let long : length (take i cs) ≡ length (take i qs) = omega (arith, length-take-le i cs (omega arith), length-take-le i qs (omega arith)) in
    let second = take_more_set (set places (2 * i) there) (2 * i + 1) back (omega (arith, length-set places (2 * i) there)) in
    let first = take_more_set places (2 * i) there (omega arith) in
    rw (n, second, first, append_assoc, h, f, b, take_more cs i c l, ← is, take_more qs i 0 (omega arith), extended_push kind (take i cs) (take i qs) c (get_or qs i 0) long) refl

-- what holds of both places of each channel holds of all places
pub extended_all : (P : Place → Type 0) (kind : ℕ → Kind) (cs : List Channel) (qs : List ℕ) (d : Channel)
    → ((i : ℕ) → i < length cs → i < length qs → P (forward kind (get_or cs i d)) × P (backward kind (get_or cs i d) (get_or qs i 0)))
    → AllByRecursion P (extended kind cs qs)
extended_all P kind [] qs d h = tt
extended_all P kind (c ∷ cs) [] d h = tt
extended_all P kind (c ∷ cs) (q ∷ qs) d h =
    let here = h 0 (omega arith) (omega arith) in
    (here.0, (here.1, extended_all P kind cs qs d (λ i l m. h (suc i) (omega arith) (omega arith))))

-- two places for each channel
pub length_extended : (kind : ℕ → Kind) (cs : List Channel) (qs : List ℕ) → length qs ≡ length cs → length (extended kind cs qs) ≡ 2 * length cs
length_extended kind [] qs l = refl
length_extended kind (c ∷ cs) [] l = absurd (omega arith)
length_extended kind (c ∷ cs) (q ∷ qs) l = omega (arith, length_extended kind cs qs (omega arith))

-- the places of one channel more, over the lists that a netlist lends
pub extend_more : (n : Netlist) (cs : List Channel) (qs : List ℕ) (i : ℕ) (places : List Place) (there back : Place)
    → cs ≡ channels_of n → length qs ≡ length (channels_of n) → i < length cs → 2 * length qs ≤ length places
    → there ≡ forward (kind_of n) (get_or cs i (record { source = 0; sink = 0 }))
    → back ≡ backward (kind_of n) (get_or cs i (record { source = 0; sink = 0 })) (get_or qs i 0)
    → take (2 * i) places ≡ extended (kind_of n) (take i (channels_of n)) (take i qs)
    → take (2 * (i + 1)) (set (set places (2 * i) there) (2 * i + 1) back) ≡ extended (kind_of n) (take (i + 1) (channels_of n)) (take (i + 1) qs)
extend_more n cs qs i places there back e same l room f b h =
    let c : Channel = get_or (channels_of n) i (record { source = 0; sink = 0 }) in
    let within : i < length (channels_of n) = omega (arith, ap length e) in
    extended_more (kind_of n) (channels_of n) qs i c places there back same within (get_or_default (channels_of n) i (record { source = 0; sink = 0 }) c within) room
    (rw e at f) (rw e at b) h

-- the kind of a module that was read from the list that a netlist lends
pub kind_read : (n : Netlist) (ms : List Module) (v : ℕ) (d : Module) → ms ≡ vec_items n.modules → v - 1 < length ms → (get_or ms (v - 1) d).kind ≡ kind_of n v
kind_read n ms v d e l = sym (ap (λ (m : Entry). m.kind) (get_or-map entry_of (vec_items n.modules) (v - 1) d _ (omega (arith, ap length e))) ∙ rw e refl)
