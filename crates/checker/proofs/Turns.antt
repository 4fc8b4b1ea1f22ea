-- What the loop of `check_reader` has between two batches, and how a batch moves it on.
--     Turned        what holds of the batch, the work memory and the lines between two batches
--     later         it holds after one more.        ended       at the end the lines are as after the call
-- Assumes nothing.
use mathlib.Core.Path.{◌≡◌, refl, sym, ap, ◌∙◌}
use Prim.Native.Nat.{ℕ, zero, suc, ◌+◌, ◌-◌, ◌^◌, ◌<◌, ◌≤◌, zero-le}
use native.Mathlib.Nat.{add-zero, add-suc}
use native.Mathlib.Omega.{arith}
use mathlib.Core.Bool.{Bool, true, false}
use mathlib.Core.List.{List, [], ◌∷◌, ◌++◌, append-nil}
use Rattle.std.proofs.lemmas.List.{append_assoc}
use borrow.Rule.Slice.PartMut.{put_mid}
use lib.ListN.{length, get_or, take, drop, length-append, length-take, length-drop}
use lib.Seq.{take_at, drop_at, drop-drop, length-take-le, take-suc}
use Rattle.lustre.specs.Answer.{answer, writes, stored_report, over, lines_after}
use Rattle.lustre.specs.declared.Line.{Line}
use Rattle.lines.specs.Lines.{line_in}
use Rattle.stored.specs.Lines.{lines_in}
use Rattle.staging.specs.declared.Batch.{Batch}
use Rattle.staging.specs.Batches.{due, blank, Batched, Going}

-- ---- lists

-- the lines of a batch behind the first n
pub lines_next : (D : List Line) (n : ℕ) (zs : List ℕ) (k : ℕ) → n + k ≤ length D → ((j : ℕ) → j < k → line_in zs j ≡ get_or D (n + j) blank) → take n D ++ lines_in k zs ≡ take (n + k) D
lines_next D n zs zero h e = append-nil (take n D) ∙ ap (λ (m : ℕ). take m D) (sym (add-zero n))
lines_next D n zs (suc k) h e =
    sym (append_assoc (take n D) (lines_in k zs) (line_in zs k ∷ []))
    ∙ (λ i. lines_next D n zs k (omega arith) (λ j l. e j (omega arith)) i ++ e k (omega arith) i ∷ [])
    ∙ sym (take-suc D (n + k) blank (omega arith))
    ∙ ap (λ (m : ℕ). take m D) (sym (add-suc n k))

-- stored over what was lent
pub put_next : (D ys : List Line) (n k : ℕ) (zs : List ℕ) → n + k ≤ length D → ((j : ℕ) → j < k → line_in zs j ≡ get_or D (n + j) blank) → put_mid n k (take n D ++ drop n ys) (lines_in k zs) ≡ take (n + k) D ++ drop (n + k) ys
put_next D ys n k zs h e =
    let l : length (take n D) ≡ n = length-take-le n D (omega arith) in
    simp (take_at (take n D) (drop n ys) n l, drop_at (take n D) (drop n ys) n l, drop-drop) (sym (append_assoc (take n D) (lines_in k zs) (drop (n + k) ys)) ∙ ap (λ (l : List Line). l ++ drop (n + k) ys) (lines_next D n zs k h e))

-- all of a list
take_all : (l : List Line) → take (length l) l ≡ l
take_all [] = refl
take_all (x ∷ l) = ap (λ (m : List Line). x ∷ m) (take_all l)

-- behind the lines that fit stands what was lent
drop_fitting : (l ys : List Line) → drop (length (take (length ys) l)) ys ≡ drop (length l) ys
drop_fitting [] [] = refl
drop_fitting [] (y ∷ ys) = refl
drop_fitting (x ∷ l) [] = refl
drop_fitting (x ∷ l) (y ∷ ys) = drop_fitting l ys

-- ---- the lines that are due
module _ (ks ws text : List ℕ) (work : ℕ) where
  -- no more than the room
  pub due_fits : (room : ℕ) → length (due ks ws text work room) ≤ room
  unfolding due
  due_fits room = go (writes (answer ks ws text work room))
    where
      go : (t : Bool) → length {A = Line} (elim t [ true ↦ take room (stored_report ks ws text) | false ↦ [] ]) ≤ room
      go true = omega (arith, length-take room (stored_report ks ws text))
      go false = zero-le

  -- stored over what was lent they are what the lines hold after the call
  pub due_over : (ys : List Line) → due ks ws text work (length ys) ++ drop (length (due ks ws text work (length ys))) ys ≡ lines_after ks ws text work ys
  unfolding due lines_after over
  due_over ys = go (writes (answer ks ws text work (length ys)))
    where
      go : (t : Bool)
          → ◌++◌ {A = Line} (elim t [ true ↦ take (length ys) (stored_report ks ws text) | false ↦ [] ]) (drop (length {A = Line} (elim t [ true ↦ take (length ys) (stored_report ks ws text) | false ↦ [] ])) ys)
          ≡ (elim t [ true ↦ over (stored_report ks ws text) ys | false ↦ ys ])
      go true = ap (λ (l : List Line). take (length ys) (stored_report ks ws text) ++ l) (drop_fitting (stored_report ks ws text) ys)
      go false = refl

-- ---- between two batches

-- The batch b stands in zs, which is as long as the memory lent, and the lines ls are those lent with the first b.at that are due over them.
pub record Turned (ks ws text lent : List ℕ) (ys : List Line) (b : Batch) (zs : List ℕ) (ls : List Line) : Type 0 where
  pub long : length zs ≡ length lent
  pub batched : Batched ks ws text lent (length ys) b zs
  pub ls_are : ls ≡ take b.at (due ks ws text (length lent) (length ys)) ++ drop b.at ys

module _ {ks ws text lent : List ℕ} {ys : List Line} {b : Batch} {zs : List ℕ} {ls : List Line} (s : Turned ks ws text lent ys b zs ls) where
  -- as many lines as were lent
  pub ls_length : length ls ≡ length ys
  ls_length =
      ap length s.ls_are ∙ length-append (take b.at (due ks ws text (length lent) (length ys))) (drop b.at ys)
      ∙ (λ i. length-take b.at (due ks ws text (length lent) (length ys)) i + length-drop b.at ys i)
      ∙ omega (arith, s.batched.within, s.batched.sums.goal, due_fits ks ws text (length lent) (length ys))

  -- the batch has its place in the lines
  pub in_room : b.at + b.count ≤ length ls
  in_room = omega (arith, ls_length, s.batched.within, s.batched.sums.goal, due_fits ks ws text (length lent) (length ys))

  -- while lines are left the next batch may be asked for
  abbrev pub going : length ys < 2 ^ 63 → b.at < b.goal → Going ks ws zs b
  going small more = record { text = text; lent = lent; room = length ys; small = small; long = s.long; batch = s.batched; more = more }

  -- after one more batch
  pub later : {c : Batch} {zs' : List ℕ} {ls' : List Line} → length zs' ≡ length zs → Batched ks ws text lent (length ys) c zs' → c.at ≡ b.at + b.count → ls' ≡ lines_in (length (take (b.at + b.count - b.at) (drop b.at ls))) zs → Turned ks ws text lent ys c zs' (put_mid b.at (b.at + b.count - b.at) ls ls')
  later l batched e e' =
      let k : b.at + b.count - b.at ≡ b.count = omega arith in
      let n : length (take (b.at + b.count - b.at) (drop b.at ls)) ≡ b.count = omega (arith, length-take (b.at + b.count - b.at) (drop b.at ls), length-drop b.at ls, in_room) in
      record {
        long = l ∙ s.long;
        batched = batched;
        ls_are = (λ i. put_mid b.at (k i) (s.ls_are i) ((e' ∙ ap (λ m. lines_in m zs) n) i))
            ∙ put_next (due ks ws text (length lent) (length ys)) ys b.at b.count zs (omega (arith, s.batched.within, s.batched.sums.goal)) s.batched.lines
            ∙ ap (λ (n : ℕ). take n (due ks ws text (length lent) (length ys)) ++ drop n ys) (sym e);
      }

  -- fewer lines are left
  pub fewer : {c : Batch} {zs' : List ℕ} → b.at < b.goal → Batched ks ws text lent (length ys) c zs' → c.at ≡ b.at + b.count → c.goal - c.at < b.goal - b.at
  fewer small batched e = omega (arith, e, s.batched.some small, s.batched.within, s.batched.sums.goal, batched.sums.goal)

  -- at the end all are stored
  pub ended : b.at ≡ b.goal → ls ≡ lines_after ks ws text (length lent) ys
  ended e =
      s.ls_are ∙ ap (λ (n : ℕ). take n (due ks ws text (length lent) (length ys)) ++ drop n ys) (e ∙ s.batched.sums.goal)
      ∙ ap (λ (l : List Line). l ++ drop (length (due ks ws text (length lent) (length ys))) ys) (take_all (due ks ws text (length lent) (length ys)))
      ∙ due_over ks ws text (length lent) ys
