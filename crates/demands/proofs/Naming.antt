-- Accepted text: its names are at most 512, rise in byte order, and a name and its number lead to each other.
-- Assumes nothing.
use Prim.Native.Nat.{ℕ, zero, suc, ◌+◌, ◌-◌, ◌≤◌, ◌<◌, Ordering}
use native.Mathlib.Omega.{arith}
use mathlib.Core.Path.{◌≡◌, refl, sym, ◌∙◌, ap}
use mathlib.Core.Bool.{Bool, true, false, ◌&&◌, not, false≢true, and-eq-true_iff}
use mathlib.Core.List.{List, [], ◌∷◌, map}
use mathlib.Core.Option.{Option, none, some, some-ne-none}
use lib.Dec.{ltb, leb}
use lib.ListN.{length}
use borrow.Author.Tests.{ltb-true}
use Rattle.lustre.specs.Name.{Name, order, ◌is◌, mem, ◌among◌}
use Rattle.lustre.specs.Names.{Piece, split, barred, above, is_name, bad_piece, bad_name, names_of, name_at, number_of}
use Rattle.demands.specs.Naming.{AcceptedNames}
use Rattle.demands.proofs.Orders.{order_trans, order_turned, is_test}

-- a name above another is not it
above_isnt : (a b : Name) → order b a ≡ Ordering.lt → (a is b) ≡ false
unfolding ◌is◌
above_isnt a b e = rw (order_turned b a, e)

above_before : (b a : Name) → above (some b) a ≡ true → order b a ≡ Ordering.lt
unfolding above
above_before b a = go (order b a)
  where
    go : (o : Ordering) → elim o [ Ordering.lt ↦ true | Ordering.eq ↦ false | Ordering.gt ↦ false ] ≡ true → o ≡ Ordering.lt
    go Ordering.lt e = refl
    go Ordering.eq e = cc
    go Ordering.gt e = cc

-- each name above the one before
RisingFrom : Option Name → List Name → Type 0
RisingFrom before [] = Unit {0}
RisingFrom before (a ∷ ns) = (above before a ≡ true) × RisingFrom (some a) ns

-- a piece that is a name, as number n
named : (n : ℕ) (before : Option Name) (p : Piece) → is_name n before p ≡ true → (above before p.bytes ≡ true) × (n < 512)
unfolding is_name
named n before p e =
    let sized = p.closed && leb 1 (length p.bytes) && leb (length p.bytes) 64 in
    let higher = above before p.bytes in
    let free = not (p.bytes among barred) in
    let all = (and-eq-true_iff (sized && higher && free) (ltb n 512)).0 e in
    (((and-eq-true_iff sized higher).0 ((and-eq-true_iff (sized && higher) free).0 all.0).0).1, ltb-true n 512 all.1)

-- pieces that refusal 3 passes, from number n on
passed : (n : ℕ) (before : Option Name) (ps : List Piece) → bad_piece n before ps ≡ none → (length (map (λ p. p.bytes) ps) ≤ 512 - n) × RisingFrom before (map (λ p. p.bytes) ps)
unfolding bad_piece RisingFrom
passed n before [] e = (omega arith, tt)
passed n before (p ∷ ps) e = go (is_name n before p) refl e (passed (n + 1) (some p.bytes) ps)
  where
    bs : List Name
    bs = map (λ p. p.bytes) ps

    go : (t : Bool) → is_name n before p ≡ t → ◌≡◌ {A = Option ℕ} (elim t [ true ↦ bad_piece (n + 1) (some p.bytes) ps | false ↦ some n ]) none
        → (bad_piece (n + 1) (some p.bytes) ps ≡ none → (length bs ≤ 512 - (n + 1)) × RisingFrom (some p.bytes) bs)
        → (suc (length bs) ≤ 512 - n) × ((above before p.bytes ≡ true) × RisingFrom (some p.bytes) bs)
    go true t e rest = let h = named n before p t in let r = rest e in (omega (arith, h.1, r.0), (h.0, r.1))
    go false t e rest = absurd (some-ne-none n e)

-- below every name after it
head_before : (a : Name) (ns : List Name) → RisingFrom (some a) ns → (j : ℕ) → j < length ns → order a (name_at ns j) ≡ Ordering.lt
unfolding RisingFrom
head_before a [] h j k = absurd (omega arith)
head_before a (b ∷ ns) h zero k = above_before a b h.0
head_before a (b ∷ ns) h (suc j) k = order_trans a b (name_at ns j) (above_before a b h.0) (head_before b ns h.1 j (omega arith))

each_before : (before : Option Name) (ns : List Name) → RisingFrom before ns → (i j : ℕ) → i < j → j < length ns → order (name_at ns i) (name_at ns j) ≡ Ordering.lt
unfolding RisingFrom
each_before before [] h i j l k = absurd (omega arith)
each_before before (a ∷ ns) h i zero l k = absurd (omega arith)
each_before before (a ∷ ns) h zero (suc j) l k = head_before a ns h.1 j (omega arith)
each_before before (a ∷ ns) h (suc i) (suc j) l k = each_before (some a) ns h.1 i j (omega arith) (omega arith)

-- number and name lead to each other
number_at : (before : Option Name) (ns : List Name) → RisingFrom before ns → (i : ℕ) → i < length ns → number_of ns (name_at ns i) ≡ i
unfolding RisingFrom number_of
number_at before [] h i k = absurd (omega arith)
number_at before (a ∷ ns) h zero k = rw (is_test.self a, number_of)
number_at before (a ∷ ns) h (suc i) k = rw (above_isnt (name_at ns i) a (head_before a ns h.1 i (omega arith)), number_of) (ap suc (number_at (some a) ns h.1 i (omega arith)))

at_number : (ns : List Name) (x : Name) → (x among ns) ≡ true → (number_of ns x < length ns) × (name_at ns (number_of ns x) ≡ x)
unfolding mem number_of
at_number [] x e = absurd (false≢true e)
at_number (a ∷ ns) x e = go (x is a) refl e (at_number ns x)
  where
    go : (t : Bool) → (x is a) ≡ t → elim t [ true ↦ true | false ↦ x among ns ] ≡ true
        → ((x among ns) ≡ true → (number_of ns x < length ns) × (name_at ns (number_of ns x) ≡ x))
        → let n : ℕ = elim t [ true ↦ 0 | false ↦ suc (number_of ns x) ] in (n < suc (length ns)) × (name_at (a ∷ ns) n ≡ x)
    go true t e rest = (omega arith, sym (is_test.same x a t))
    go false t e rest = let r = rest e in (omega (arith, r.0), r.1)

pub accepted_names : AcceptedNames
unfolding bad_name names_of
accepted_names text e =
    let names = names_of text in
    let h = passed 0 none (split text) e in
    let back = number_at none names h.1 in
    record {
      few = h.0;
      increasing = each_before none names h.1;
      injective = λ i j p q e. sym (back i p) ∙ ap (number_of names) e ∙ back j q;
      back = back;
      forth = at_number names;
    }
