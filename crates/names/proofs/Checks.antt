-- The check of a text, piece by piece.
-- Assumes nothing.
use Rattle.std.proofs.Common.{◌≡◌, ℕ, suc, ◌+◌, ◌<◌, ◌≤◌, min, Bool, true, false, eqb, List, [], ◌∷◌, ◌++◌, length, get_or, take, Ok, Err, refl, sym, ◌∙◌, ⊎_elim, append_assoc, arith}
use native.Mathlib.Nat.{add-zero, zero-add}
use lib.ListN.{length-map}
use Rattle.std.proofs.lemmas.Bool.Decides.{nat_tests}
use Rattle.std.proofs.lemmas.Bool.{cases_lt, eqb-true}
use Rattle.std.proofs.lemmas.List.Elements.{All-head, All-tail}
use Rattle.std.proofs.lemmas.List.{length_push, get_or_append_left, take_all, take_more, nil_from_length}
use Rattle.std.proofs.Math.Option.{some, none}
use Rattle.std.specs.List.{All, IsFirstMatchOrLen}
use Rattle.lustre.specs.Name.{order}
use Rattle.lustre.specs.Names.{Piece, longer, split, above, is_name, bad_piece, bad_name, names_of}
use Rattle.lustre.specs.declared.Refusal.TheVariants.{BadName}
use Rattle.names.specs.Scan.{piece_of, judged, checked}

abbrev IsNonZero : ℕ → Type 0
IsNonZero b = eqb b 0 ≡ false

split_closed : (bs rest : List ℕ) → All IsNonZero bs → split (bs ++ 0 ∷ rest) ≡ piece_of bs true ∷ split rest
unfolding split longer
split_closed [] rest h = refl
split_closed (b ∷ bs) rest h = rw (split, All-head IsNonZero b bs h, split_closed bs rest (All-tail IsNonZero b bs h))

split_open : (bs : List ℕ) → 0 < length bs → All IsNonZero bs → split bs ≡ piece_of bs false ∷ []
unfolding split longer
split_open [] l h = absurd (omega arith)
split_open (b ∷ []) l h = rw (split, All-head IsNonZero b [] h)
split_open (b ∷ c ∷ cs) l h = rw (split, All-head IsNonZero b (c ∷ cs) h, split_open (c ∷ cs) (omega arith) (All-tail IsNonZero b (c ∷ cs) h))

-- what `split_inclusive` cuts off the rest: the piece up to the first zero, which is at i, with that zero; all of the rest where there is none
pub record Cut (rest piece after : List ℕ) : Type 0 where
  pub parts : rest ≡ piece ++ after
  pub i : ℕ
  pub long : length piece ≡ min (i + 1) (length rest)
  pub first : IsFirstMatchOrLen (λ b. eqb b 0) rest i
  pub some_byte : 0 < length rest

module _ (rest piece after : List ℕ) (c : Cut rest piece after) where
  pub cut_closed : (bs : List ℕ) → piece ≡ bs ++ 0 ∷ [] → split rest ≡ piece_of bs true ∷ split after
  cut_closed bs e =
      let long : length bs + 1 ≡ length piece = rw (e, length_push) in
      let whole : rest ≡ bs ++ 0 ∷ after = c.parts ∙ rw (e, append_assoc) in
      let below : All IsNonZero bs = λ k d l. rw (← get_or_append_left bs (0 ∷ after) d k l, ← whole) (c.first.0 k d (omega arith) (omega (arith, c.long))) in
      rw (whole, split_closed bs after below)

  found : c.i < length rest → piece ≡ take c.i piece ++ 0 ∷ []
  found l =
      let long : length piece ≡ c.i + 1 = omega (arith, c.long) in
      let zero : get_or piece c.i 0 ≡ 0 = sym (get_or_append_left piece after 0 c.i (omega arith)) ∙ rw (← c.parts) (eqb-true _ 0 (c.first.1 l 0)) in
      sym (take_all (c.i + 1) piece (omega arith)) ∙ take_more piece c.i 0 (omega arith) ∙ rw zero

  pub cut_open : ((front : List ℕ) → piece ≡ front ++ 0 ∷ [] → ⊥) → split rest ≡ piece_of rest false ∷ []
  cut_open n =
      ⊎_elim (λ l. absurd (n (take c.i piece) (found l))) (λ l. split_open rest c.some_byte (λ k d h. c.first.0 k d (omega arith) (omega arith))) (cases_lt c.i (length rest))

-- a name's number is below 512
name_counted : (n : ℕ) (before bs : List ℕ) (c : Bool) → true ≡ is_name n (some before) (piece_of bs c) → n < 512
unfolding is_name
name_counted n before bs c f = grind (arith, nat_tests)

-- before the first name the empty text serves as well as none, since every name is above it
first_name : (p : Piece) → is_name 0 none p ≡ is_name 0 (some []) p
unfolding is_name above order
first_name p = go p.bytes p.closed
  where
    go : (bs : List ℕ) (c : Bool) → is_name 0 none (piece_of bs c) ≡ is_name 0 (some []) (piece_of bs c)
    go [] true = refl
    go [] false = refl
    go (b ∷ bs) c = refl

first_bad : (ps : List Piece) → bad_piece 0 none ps ≡ bad_piece 0 (some []) ps
unfolding bad_piece
first_bad [] = refl
first_bad (p ∷ ps) = rw (first_name p, bad_piece)

-- n names have passed, and the last of them is `before`: what the check says is what it says of the rest
pub record Passed (text rest before : List ℕ) (n : ℕ) : Type 0 where
  pub few : n ≤ 512
  pub left : checked text ≡ judged (bad_piece n (some before) (split rest)) (n + length (split rest))

pub passed_none : (text : List ℕ) → Passed text text [] 0
unfolding checked bad_name names_of
passed_none text =
    record {
      few = omega arith;
      left = rw (first_bad (split text), length-map (split text) (λ p. p.bytes), zero-add (length (split text)));
    }

module _ (text rest before : List ℕ) (n : ℕ) (s : Passed text rest before n) where
  pub passed_bad : (p : Piece) (ps : List Piece) → split rest ≡ p ∷ ps → false ≡ is_name n (some before) p → Err (BadName n) ≡ checked text
  unfolding bad_piece
  passed_bad p ps e f = rw (s.left, e, bad_piece, ← f)

  pub passed_more : (bs after : List ℕ) → split rest ≡ piece_of bs true ∷ split after → true ≡ is_name n (some before) (piece_of bs true) → Passed text after bs (n + 1)
  unfolding bad_piece
  passed_more bs after e f =
      let m : n + suc (length (split after)) ≡ n + 1 + length (split after) = omega arith in
      record {
        few = omega (arith, name_counted n before bs true f);
        left = rw (s.left, e, bad_piece, ← f, m);
      }

  pub passed_all : length rest ≡ 0 → Ok n ≡ checked text
  unfolding bad_piece split
  passed_all e = rw (s.left, nil_from_length rest e, add-zero n)
