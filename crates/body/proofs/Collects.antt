-- The walk of `immediate_reads`: what each record does to the set of names, and to the names that are still to be read.
-- Assumes nothing.
use Rattle.std.specs.Prelude.{if◌then◌else◌}
use Prim.Native.Nat.{ℕ, ◌+◌, ◌-◌, ◌<◌}
use mathlib.Core.Path.{◌≡◌, refl, sym, subst, ◌∙◌}
use mathlib.Core.Bool.{true, ◌||◌, or_assoc, or-false}
use mathlib.Core.Logic.{⊎_elim}
use native.Mathlib.Omega.{arith}
use mathlib.Core.List.{List, [], ◌∷◌, ◌++◌}
use lib.Dec.{eqb}
use lib.ListN.{get_or}
use borrow.Author.Tests.{eqb-true, eqb-false}
use Rattle.lustre.specs.Name.{Name, ◌is◌, ◌among◌, mem}
use Rattle.lustre.specs.Expr.{Expr, size, pre}
use Rattle.lustre.specs.Deps.{reads}
use Rattle.demands.proofs.Sets.{split, mustnt, mem_eq, mem_ne}
use Rattle.demands.proofs.Orders.{is_test}
use Rattle.loops.specs.Rows.{has, Connected}
use Rattle.standing.specs.Standing.{Source, source, word, ExprAt}
use Rattle.standing.specs.Owed.{owes, There}
use Rattle.standing.proofs.Sizes.{expr_end}
use Rattle.standing.proofs.Owed.{Part, of_expr, PartAt, in_part, kind, Turn, turn}
use Rattle.body.specs.Body.{reading_kind, Alone, WithNames, Collected}
use Rattle.body.proofs.Told.{told, told_open, reads_part, read_here, reads_opens}
use Rattle.body.proofs.Walks.{Walk, walk_start, walk_first, walk_pre, walk_done}

-- among names after names
among_append : (x : Name) (xs ys : List Name) → (x among (xs ++ ys)) ≡ ((x among xs) || (x among ys))
unfolding mem
among_append x [] ys = refl
among_append x (y ∷ xs) ys =
    ⊎_elim
    (λ e. rw (mem_eq ◌is◌ x y (xs ++ ys) e, mem_eq ◌is◌ x y xs e))
    (λ e. rw (mem_ne ◌is◌ x y (xs ++ ys) e, mem_ne ◌is◌ x y xs e) (among_append x xs ys))
    (split (x is y))

-- a text that no other number has is that of a number exactly if the numbers are equal
same_number : (text : ℕ → Name) (n w : ℕ) → Alone text n → w < 512 → (text n among (text w ∷ [])) ≡ eqb n w
unfolding mem
same_number text n w a h =
    ⊎_elim
    (λ e. rw e (mem_eq ◌is◌ (text n) (text w) [] (subst (λ (m : ℕ). (text n is text m) ≡ true) (eqb-true n w e) (is_test.self (text n)))))
    (λ e. rw e (mem_ne ◌is◌ (text n) (text w) [] (mustnt (text n is text w) (λ i. eqb-false n w e (sym (a w h (sym (is_test.same (text n) (text w) i))))))))
    (split (eqb n w))

-- no name more, and one name more
pub with_none : (text : ℕ → Name) (row : List ℕ) → WithNames text [] row row
unfolding mem
with_none text row = record { each = λ n h a. sym (or-false (has row 0 n)) }

pub with_one : (text : ℕ → Name) (w : ℕ) {row row' : List ℕ} → w < 512 → Connected row 0 w row' → WithNames text (text w ∷ []) row row'
with_one text w h c = record { each = λ n l a. rw (same_number text n w a h) (c.edges 0 n l) }

module _ (S : Source) (e : Expr) (at : ℕ) (row₀ : List ℕ) where
  -- once these names are in the set, all that e reads are
  pub record ToRead (row : List ℕ) (l : List Name) : Type 0 where
    pub rest : (n : ℕ) → n < 512 → Alone S.text n → (has row 0 n || (S.text n among l)) ≡ (has row₀ 0 n || (S.text n among reads e))

  -- names are added
  read_step : {row row' : List ℕ} (xs ys : List Name) → ToRead row (xs ++ ys) → WithNames S.text xs row row' → ToRead row' ys
  read_step xs ys r c = record { rest = λ n h a. rw (c.each n h a, or_assoc, ← among_append (S.text n) xs ys) (r.rest n h a) }

  -- the parts from a position on, so many, are still to be read
  abbrev pub Unread : ℕ → ℕ → List ℕ → Type 0
  Unread next left row = Walk S reads_part (ToRead row) next (at + size e) left

  pub unread_start : ExprAt S e at → Unread at 1 row₀
  unfolding reads_part
  unread_start s = walk_start S reads_part (ToRead row₀) e at s refl (record { rest = λ n h a. refl })

  module _ {next left : ℕ} {row : List ℕ} (w : Unread next left row) where
    pub unread_done : left ≡ 0 → (next ≡ at + size e) × WithNames S.text (reads e) row₀ row
    unfolding mem
    unread_done z = let d = walk_done S reads_part (ToRead row) w z in (d.1, record { each = λ n h a. sym (or-false (has row 0 n)) ∙ d.0.rest n h a })

    module _ (z : left ≡ 0 → ⊥) where
      -- a name's word is the number of a name
      pub unread_small : reading_kind (kind S next) ≡ true → word S next < 512
      unread_small = (walk_first S reads_part (ToRead row) w z).says.small

      -- a record that is no `pre` is passed, and its name is added
      pub unread_pass : {row' : List ℕ} → (kind S next ≡ 68 → ⊥)
          → WithNames S.text (if reading_kind (kind S next) then S.text (word S next) ∷ [] else []) row row' → Unread (next + 1) (left - 1 + owes (kind S next) (word S next)) row'
      unfolding ExprAt
      unread_pass h c =
          let f = walk_first S reads_part (ToRead row) w z in
          let t : (a : Expr) → f.p ≡ of_expr (pre a) → ⊥ = λ a e. h (subst (λ (p : Part). PartAt S p next) e f.p_at).0.kind in
          let ys = told reads_part (next + 1) (in_part f.p ++ f.ps) in
          let r = rw (told_open reads_part next f.p f.ps (read_here f.p) (reads_opens f.p next t)) at f.rest in
          record { ps = in_part f.p ++ f.ps; owing = f.onward; rest = read_step (read_here f.p) ys r (rw f.says.names at c) }

      -- a `pre` reads nothing
      pub record AtPre : Type 0 where
        pub a : Expr
        pub a_at : ExprAt S a (next + 1)
        pub after : Unread (next + 1 + size a) (left - 1) row

      pub at_pre : kind S next ≡ 68 → AtPre
      unfolding reads reads_part
      at_pre h =
          let f = walk_pre S reads_part (ToRead row) w z h in
          record { a = f.a; a_at = f.a_at; after = record { ps = f.ps; owing = f.behind; rest = f.rest } }

-- ---- the turns of the loop

-- what a call of `immediate_reads`, and what a call of `skip` ensures
abbrev Collects : (ks ws : List ℕ) (at : ℕ) (row : List ℕ) (r : ℕ) (row' : List ℕ) → Type 0
Collects ks ws at row r row' = (g : There ks ws at) → Collected g.text g.e at row r row'

abbrev Skips : (ks ws : List ℕ) (at r : ℕ) → Type 0
Skips ks ws at r = (g : There ks ws at) → r ≡ at + size g.e

-- the loop's invariant
pub record Collecting (ks ws : List ℕ) (at : ℕ) (row₀ : List ℕ) (next left : ℕ) (row : List ℕ) : Type 0 where
  pub turn : Turn ks ws next left
  pub small : 0 < left → reading_kind (get_or ks next 0) ≡ true → get_or ws next 0 < 512
  pub rest : (g : There ks ws at) → Unread (source ks ws g.text) g.e at row₀ next left row

module _ {ks ws : List ℕ} {at : ℕ} (g₀ : There ks ws at) {row₀ : List ℕ} where
  collecting_at : {next left : ℕ} {row : List ℕ} → ((g : There ks ws at) → Unread (source ks ws g.text) g.e at row₀ next left row) → Collecting ks ws at row₀ next left row
  collecting_at r = record {
    turn = turn _ (r g₀).owing (expr_end _ g₀.e at g₀.stands);
    small = λ z. unread_small _ g₀.e at row₀ (r g₀) (λ e. omega (arith, z));
    rest = r;
  }

  pub collecting_start : Collecting ks ws at row₀ at 1 row₀
  collecting_start = collecting_at (λ g. unread_start _ g.e at row₀ g.stands)

module _ {ks ws : List ℕ} {at : ℕ} {row₀ : List ℕ} {next left : ℕ} {row : List ℕ} (w : Collecting ks ws at row₀ next left row) where
  -- where nothing is owed the names are collected
  pub collecting_done : left ≡ 0 → Collects ks ws at row₀ next row
  collecting_done z g = let d = unread_done _ g.e at row₀ (w.rest g) z in record { next = d.0; names = d.1 }

  module _ (z : left ≡ 0 → ⊥) (g₀ : There ks ws at) where
    -- a record that is no `pre` is passed
    pub collecting_pass : {row' : List ℕ} → (get_or ks next 0 ≡ 68 → ⊥)
        → ((text : ℕ → Name) → WithNames text (if reading_kind (get_or ks next 0) then text (get_or ws next 0) ∷ [] else []) row row')
        → Collecting ks ws at row₀ (next + 1) (left - 1 + owes (get_or ks next 0) (get_or ws next 0)) row'
    collecting_pass h c = collecting_at g₀ (λ d. unread_pass _ d.e at row₀ (w.rest d) z h (c d.text))

    -- at a `pre` the walk goes on behind its argument
    module _ (h : get_or ks next 0 ≡ 68) where
      pre_in : (g : There ks ws at) → AtPre _ g.e at row₀ (w.rest g) z
      pre_in g = at_pre _ g.e at row₀ (w.rest g) z h

      pub pre_argument : There ks ws (next + 1)
      pre_argument = let x = pre_in g₀ in record { text = g₀.text; e = x.a; stands = x.a_at }

      pub after_pre : {r : ℕ} → Skips ks ws (next + 1) r → Collecting ks ws at row₀ r (left - 1) row
      after_pre c = collecting_at g₀ (λ g. let x = pre_in g in rw (c (record { text = g.text; e = x.a; stands = x.a_at })) x.after)
