-- The walk of `check_pre`: what each record does to the notes that are still to be written.
-- Assumes nothing.
use Rattle.std.specs.Prelude.{if◌then◌else◌}
use Prim.Native.Nat.{ℕ, ◌+◌, ◌-◌, ◌≤◌}
use native.Mathlib.Omega.{arith}
use mathlib.Core.Path.{◌≡◌, refl, sym, ◌∙◌}
use mathlib.Core.Bool.{Bool, true, false}
use mathlib.Core.List.{List, [], ◌∷◌, ◌++◌, append_assoc}
use lib.ListN.{get_or}
use Rattle.lustre.specs.Name.{Name}
use Rattle.lustre.specs.Expr.{Expr, size}
use Rattle.lustre.specs.Init.{pres}
use Rattle.lines.specs.Lines.{Noted}
use Rattle.lines.specs.declared.Spot.{Spot}
use Rattle.lines.specs.declared.Lines.{Lines}
use Rattle.standing.specs.Standing.{Source, source, word, ExprAt}
use Rattle.standing.specs.Owed.{owes, There}
use Rattle.standing.proofs.Sizes.{expr_end}
use Rattle.standing.proofs.Owed.{in_part, kind, Turn, turn}
use Rattle.body.specs.Body.{notes, Initialized}
use Rattle.body.proofs.Told.{told, told_open, pres_part, pres_opens}
use Rattle.body.proofs.Heads.{not_temporal}
use Rattle.body.proofs.Walks.{Walk, walk_start, walk_first, walk_pre, walk_arrow, walk_done}
use Rattle.body.proofs.Writing.{Still, still_start, still_step, still_done}

module _ (S : Source) (e : Expr) (at : ℕ) (under : Bool) (num : Name → ℕ) (q : Spot) (l₀ : Lines) where
  -- these notes are still to be written
  abbrev ToNote : Lines → List ℕ → Type 0
  ToNote l xs = Still num q 70 (pres at e under) l₀ l xs

  -- two lists of notes are written
  both : {l l₁ l₂ : Lines} (xs ys zs : List ℕ) → ToNote l ((xs ++ ys) ++ zs) → Noted num q (notes 70 xs) l l₁ → Noted num q (notes 70 ys) l₁ l₂ → ToNote l₂ zs
  both xs ys zs r c d =
      let s = still_step num q 70 (pres at e under) l₀ xs (ys ++ zs) (rw append_assoc at r) c in
      still_step num q 70 (pres at e under) l₀ ys zs s d

  -- the parts from a position on, so many, are still to be checked
  abbrev pub Unchecked : ℕ → ℕ → Lines → Type 0
  Unchecked next left l = Walk S (pres_part under) (ToNote l) next (at + size e) left

  pub unchecked_start : ExprAt S e at → Unchecked at 1 l₀
  unfolding pres_part
  unchecked_start s = walk_start S (pres_part under) (ToNote l₀) e at s refl (still_start num q 70 (pres at e under) l₀)

  module _ {next left : ℕ} {l : Lines} (w : Unchecked next left l) where
    pub unchecked_done : left ≡ 0 → (next ≡ at + size e) × Noted num q (notes 70 (pres at e under)) l₀ l
    unchecked_done z = let d = walk_done S (pres_part under) (ToNote l) w z in (d.1, still_done num q 70 (pres at e under) l₀ d.0)

    module _ (z : left ≡ 0 → ⊥) where
      -- any other record is passed
      pub unchecked_pass : (kind S next ≡ 68 → ⊥) → (kind S next ≡ 69 → ⊥) → Unchecked (next + 1) (left - 1 + owes (kind S next) (word S next)) l
      unchecked_pass h g =
          let f = walk_first S (pres_part under) (ToNote l) w z in
          let t = sym f.says.temporal ∙ not_temporal (kind S next) h g in
          record { ps = in_part f.p ++ f.ps; owing = f.onward; rest = rw (told_open (pres_part under) next f.p f.ps [] (pres_opens under f.p next t)) at f.rest }

      -- a `pre`: its own note, then those of its argument, which no arrow reaches
      pub record AtPre : Type 0 where
        pub a : Expr
        pub a_at : ExprAt S a (next + 1)
        pub after : {l₁ l₂ : Lines} → Noted num q (notes 70 (if under then [] else next ∷ [])) l l₁
            → Noted num q (notes 70 (pres (next + 1) a false)) l₁ l₂ → Unchecked (next + 1 + size a) (left - 1) l₂

      pub at_pre : kind S next ≡ 68 → AtPre
      unfolding pres pres_part
      at_pre h =
          let f = walk_pre S (pres_part under) (ToNote l) w z h in
          let zs = told (pres_part under) (next + 1 + size f.a) f.ps in
          record { a = f.a; a_at = f.a_at; after = λ c d. record { ps = f.ps; owing = f.behind; rest = both (if under then [] else next ∷ []) (pres (next + 1) f.a false) zs f.rest c d } }

      -- an arrow: the notes of its initial side, then those of its body
      pub record AtArrow : Type 0 where
        pub a : Expr
        pub b : Expr
        pub a_at : ExprAt S a (next + 1)
        pub b_at : ExprAt S b (next + 1 + size a)
        pub after : {l₁ l₂ : Lines} → Noted num q (notes 70 (pres (next + 1) a under)) l l₁
            → Noted num q (notes 70 (pres (next + 1 + size a) b true)) l₁ l₂ → Unchecked (next + 1 + size a + size b) (left - 1) l₂

      pub at_arrow : kind S next ≡ 69 → AtArrow
      unfolding pres pres_part
      at_arrow h =
          let f = walk_arrow S (pres_part under) (ToNote l) w z h in
          let zs = told (pres_part under) (next + 1 + size f.a + size f.b) f.ps in
          record {
            a = f.a;
            b = f.b;
            a_at = f.a_at;
            b_at = f.b_at;
            after = λ c d. record { ps = f.ps; owing = f.behind; rest = both (pres (next + 1) f.a under) (pres (next + 1 + size f.a) f.b true) zs f.rest c d };
          }

-- ---- the turns of the loop

-- what a call of `check_pre` ensures
abbrev pub Checks : (ks ws : List ℕ) (at : ℕ) (under : Bool) (q : Spot) (l : Lines) (r : ℕ) (l' : Lines) → Type 0
Checks ks ws at under q l r l' = (num : Name → ℕ) (g : There ks ws at) → Initialized num q g.e at under l r l'

-- some numbering of names, where which it is does not matter
no_numbers : Name → ℕ
no_numbers x = 0

-- the loop's invariant
pub record Checking (ks ws : List ℕ) (at : ℕ) (under : Bool) (q : Spot) (l₀ : Lines) (next left : ℕ) (l : Lines) : Type 0 where
  pub from : at ≤ next
  pub turn : Turn ks ws next left
  pub rest : (num : Name → ℕ) (g : There ks ws at) → Unchecked (source ks ws g.text) g.e at under num q l₀ next left l

module _ {ks ws : List ℕ} {at : ℕ} (g₀ : There ks ws at) {under : Bool} {q : Spot} {l₀ : Lines} where
  checking_at : {next left : ℕ} {l : Lines} → at ≤ next → ((num : Name → ℕ) (g : There ks ws at) → Unchecked (source ks ws g.text) g.e at under num q l₀ next left l)
      → Checking ks ws at under q l₀ next left l
  checking_at f r = record { from = f; turn = turn _ (r no_numbers g₀).owing (expr_end _ g₀.e at g₀.stands); rest = r }

  pub checking_start : Checking ks ws at under q l₀ at 1 l₀
  checking_start = checking_at (omega arith) (λ num g. unchecked_start _ g.e at under num q l₀ g.stands)

module _ {ks ws : List ℕ} {at : ℕ} {under : Bool} {q : Spot} {l₀ : Lines} {next left : ℕ} {l : Lines} (w : Checking ks ws at under q l₀ next left l) where
  -- where nothing is owed the expression is checked
  pub checking_done : left ≡ 0 → Checks ks ws at under q l₀ next l
  checking_done z num g = let d = unchecked_done _ g.e at under num q l₀ (w.rest num g) z in record { next = d.0; noted = d.1 }

  module _ (z : left ≡ 0 → ⊥) (g₀ : There ks ws at) where
    -- a record that is neither `pre` nor arrow is passed
    pub checking_pass : (get_or ks next 0 ≡ 68 → ⊥) → (get_or ks next 0 ≡ 69 → ⊥) → Checking ks ws at under q l₀ (next + 1) (left - 1 + owes (get_or ks next 0) (get_or ws next 0)) l
    checking_pass h g = checking_at g₀ (omega (arith, w.from)) (λ num d. unchecked_pass _ d.e at under num q l₀ (w.rest num d) z h g)

    -- at a `pre` its argument is checked, and the walk goes on behind it
    module _ (h : get_or ks next 0 ≡ 68) where
      pre_in : (num : Name → ℕ) (g : There ks ws at) → AtPre _ g.e at under num q l₀ (w.rest num g) z
      pre_in num g = at_pre _ g.e at under num q l₀ (w.rest num g) z h

      pub pre_argument : There ks ws (next + 1)
      pre_argument = let x = pre_in no_numbers g₀ in record { text = g₀.text; e = x.a; stands = x.a_at }

      pub after_pre : {r : ℕ} {l₁ l₂ : Lines} → ((num : Name → ℕ) → Noted num q (notes 70 (if under then [] else next ∷ [])) l l₁)
          → Checks ks ws (next + 1) false q l₁ r l₂ → Checking ks ws at under q l₀ r (left - 1) l₂
      after_pre c d =
          checking_at g₀ (omega (arith, w.from, (d no_numbers pre_argument).next))
          (λ num g.
          let x = pre_in num g in
          let y = d num (record { text = g.text; e = x.a; stands = x.a_at }) in
          rw y.next (x.after (c num) y.noted))

    -- at an arrow both sides are checked, and the walk goes on behind them
    module _ (h : get_or ks next 0 ≡ 69) where
      arrow_in : (num : Name → ℕ) (g : There ks ws at) → AtArrow _ g.e at under num q l₀ (w.rest num g) z
      arrow_in num g = at_arrow _ g.e at under num q l₀ (w.rest num g) z h

      pub arrow_initial : There ks ws (next + 1)
      arrow_initial = let x = arrow_in no_numbers g₀ in record { text = g₀.text; e = x.a; stands = x.a_at }

      module _ {a : ℕ} {l₁ : Lines} (c : Checks ks ws (next + 1) under q l a l₁) where
        pub arrow_body : There ks ws a
        unfolding arrow_initial
        arrow_body = let x = arrow_in no_numbers g₀ in record { text = g₀.text; e = x.b; stands = rw (c no_numbers arrow_initial).next x.b_at }

        pub after_arrow : {b : ℕ} {l₂ : Lines} → Checks ks ws a true q l₁ b l₂ → Checking ks ws at under q l₀ b (left - 1) l₂
        after_arrow d =
            checking_at g₀ (omega (arith, w.from, (c no_numbers arrow_initial).next, (d no_numbers arrow_body).next))
            (λ num g.
            let x = arrow_in num g in
            let y = c num (record { text = g.text; e = x.a; stands = x.a_at }) in
            let v = rw y.next at d in
            let u = v num (record { text = g.text; e = x.b; stands = x.b_at }) in
            rw u.next (x.after y.noted u.noted))
