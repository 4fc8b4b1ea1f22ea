-- The steps of `enter` beside those of the definition's `scan`: what its loop keeps, and a law for each way through its body.
-- Assumes nothing.
use Prim.Native.Nat.{ℕ, zero, suc, ◌+◌, ◌*◌, ◌-◌, ◌≤◌, ◌<◌, zero-le}
use native.Mathlib.Omega.{arith}
use native.Mathlib.Nat.{le_refl, add-zero}
use native.Mathlib.Numerals.{add-one}
use mathlib.Core.Path.{◌≡◌, refl, sym, ◌∙◌, ap, subst}
use mathlib.Core.Logic.{⊎_elim}
use mathlib.Core.Bool.{true, false, true≢false}
use mathlib.Core.List.{List, [], ◌∷◌, ◌++◌}
use lib.ListN.{length, get_or, take, set, length-set}
use lib.Seq.{get_or-set_same, get_or-set_other, take-suc-set, take-take, length-take-le, take_at}
use lib.Dec.{eqb}
use borrow.Author.Tests.{eq-eqb, ne_eqb}
use Rattle.lustre.specs.Name.{mem}
use Rattle.lustre.specs.Walk.{Search, found, clear, more, after, from_first, closing, scan, enter}
use Rattle.demands.proofs.Sets.{split, mem_eq, mem_ne, mem_snoc, from_eq, from_ne}
use Rattle.std.specs.Prelude.{Option, None, Some, is_some}
use Rattle.loops.specs.declared.Colour.{Colour}
use Rattle.loops.specs.declared.Colour.TheVariants.{Free, OnPath, Cleared}
use Rattle.loops.specs.Rows.{row_from, row, First}
use Rattle.loops.specs.Steps.{free, is_on, is_off, Colours, Alike, CanEnter, Enters}
use Rattle.loops.proofs.Rows.{same_or, first_names}
use Rattle.demands.proofs.Clauses.{scan_going, more_none, more_more}

-- The free names: what a colour counts for.
weight : Colour → ℕ
weight Free = 1
weight OnPath = 0
weight Cleared = 0

free_cons : (c : Colour) (cs : List Colour) → free (c ∷ cs) ≡ weight c + free cs
unfolding free weight
free_cons Free cs = omega arith
free_cons OnPath cs = omega arith
free_cons Cleared cs = omega arith

pub free_le : (l : List Colour) → free l ≤ length l
unfolding free weight
free_le [] = zero-le
free_le (Free ∷ cs) = let ih : free cs ≤ length cs = free_le cs in omega arith
free_le (OnPath ∷ cs) = let ih : free cs ≤ length cs = free_le cs in omega arith
free_le (Cleared ∷ cs) = let ih : free cs ≤ length cs = free_le cs in omega arith

-- a colour other than `Free` goes over any
free_set : (l : List Colour) (i : ℕ) (v : Colour) → weight v ≡ 0 → free (set l i v) ≤ free l
free_set [] i v h = le_refl (free [])
free_set (c ∷ cs) zero v h = omega (arith, free_cons c cs, free_cons v cs)
free_set (c ∷ cs) (suc i) v h =
    let ih : free (set cs i v) ≤ free cs = free_set cs i v h in
    omega (arith, free_cons c cs, free_cons c (set cs i v))

-- it goes over `Free`
free_mark : (l : List Colour) (i : ℕ) (v : Colour) → i < length l → get_or l i Free ≡ Free → weight v ≡ 0 → suc (free (set l i v)) ≡ free l
unfolding weight
free_mark [] i v b e h = absurd (omega arith)
free_mark (c ∷ cs) zero v b e h = let w : weight c ≡ 1 = ap weight e in omega (arith, free_cons c cs, free_cons v cs)
free_mark (c ∷ cs) (suc i) v b e h =
    let ih : suc (free (set cs i v)) ≡ free cs = free_mark cs i v (omega arith) e h in
    omega (arith, free_cons c cs, free_cons c (set cs i v))

-- The colours.
other : (x y : ℕ) (l : List ℕ) → (x ≡ y → ⊥) → mem eqb x (y ∷ l) ≡ mem eqb x l
other x y l n = mem_ne eqb x y l (ne_eqb x y n)

here : (x y : ℕ) (l : List ℕ) → x ≡ y → mem eqb x (y ∷ l) ≡ true
here x y l e = mem_eq eqb x y l (eq-eqb x y e)

module _ (colour : List Colour) (node : ℕ) (wide : length colour ≡ 512) (b : node < 512) where
  -- the colours after one is stored
  coloured : (v : Colour) (x : ℕ) → x ≡ node → get_or (set colour node v) x Free ≡ v
  coloured v x e = ap (λ (z : ℕ). get_or (set colour node v) z Free) e ∙ get_or-set_same colour node v Free (omega arith)

  uncoloured : (v : Colour) (x : ℕ) → (x ≡ node → ⊥) → get_or colour x Free ≡ get_or (set colour node v) x Free
  uncoloured v x n = sym (get_or-set_other colour node x v Free n)

  -- a free name goes on the path
  colours_mark : (path cl : List ℕ) → get_or colour node Free ≡ Free → Colours colour path cl → Colours (set colour node OnPath) (path ++ (node ∷ [])) cl
  colours_mark path cl e h =
      record {
        on = λ x q.
            mem_snoc eqb x node path
            ∙ ⊎_elim
            (λ s. here x node path s ∙ sym (ap is_on (coloured OnPath x s)))
            (λ s. other x node path s ∙ h.on x q ∙ ap is_on (uncoloured OnPath x s))
            (same_or x node);
        off = λ x q.
            h.off x q
            ∙ ⊎_elim
            (λ s. ap is_off (ap (λ (z : ℕ). get_or colour z Free) s ∙ e) ∙ sym (ap is_off (coloured OnPath x s)))
            (λ s. ap is_off (uncoloured OnPath x s))
            (same_or x node);
      }

  -- the path's last name is cleared
  colours_clear : (path cl : List ℕ) → mem eqb node path ≡ false → Colours colour (path ++ (node ∷ [])) cl → Colours (set colour node Cleared) path (node ∷ cl)
  colours_clear path cl e h =
      record {
        on = λ x q.
            ⊎_elim
            (λ s. ap (λ (z : ℕ). mem eqb z path) s ∙ e ∙ sym (ap is_on (coloured Cleared x s)))
            (λ s. sym (mem_snoc eqb x node path ∙ other x node path s) ∙ h.on x q ∙ ap is_on (uncoloured Cleared x s))
            (same_or x node);
        off = λ x q.
            ⊎_elim
            (λ s. here x node cl s ∙ sym (ap is_off (coloured Cleared x s)))
            (λ s. other x node cl s ∙ h.off x q ∙ ap is_off (uncoloured Cleared x s))
            (same_or x node);
      }

-- the loop is what stands from its last name's first place on
from_snoc : (s : ℕ) (path : List ℕ) → mem eqb s path ≡ true → from_first eqb s (path ++ (s ∷ [])) ≡ closing eqb s path
unfolding mem closing from_first
from_snoc s [] i = absurd (true≢false (sym i))
from_snoc s (y ∷ ys) i =
    ⊎_elim
    (λ e. from_eq eqb s y (ys ++ (s ∷ [])) e ∙ ap (λ (l : List ℕ). l ++ (s ∷ [])) (sym (from_eq eqb s y ys e)))
    (λ e. from_ne eqb s y (ys ++ (s ∷ [])) e ∙ from_snoc s ys (sym (mem_ne eqb s y ys e) ∙ i) ∙ ap (λ (l : List ℕ). l ++ (s ∷ [])) (sym (from_ne eqb s y ys e)))
    (split (eqb s y))

-- What a part of the search behind a path of depth + 1 names does: from a state with the successors `todo` to look at, to one with `todo'`.
pub record Goes (g : List ℕ) (depth : ℕ) (colour : List Colour) (path : List ℕ) (looks : ℕ) (todo : List ℕ) (colour' : List Colour) (path' : List ℕ) (looks' : ℕ) (todo' : List ℕ) : Type 0 where
  pub fewer : free colour' ≤ free colour
  pub right : (P cl : List ℕ) (f : ℕ) → take (depth + 1) path ≡ P → Colours colour P cl → free colour ≤ f
      → (cl' : List ℕ) × (take (depth + 1) path' ≡ P) × Colours colour' P cl' × (more looks (scan eqb (enter eqb (row g) f) P todo cl) ≡ more looks' (scan eqb (enter eqb (row g) f) P todo' cl'))

module _ {g : List ℕ} {depth : ℕ} where
  goes_none : (colour : List Colour) (path : List ℕ) (looks : ℕ) (todo : List ℕ) → Goes g depth colour path looks todo colour path looks todo
  goes_none colour path looks todo = record { fewer = le_refl (free colour); right = λ P cl f p s b. (cl, p, s, refl) }

  -- another way to write what is left
  goes_as : {colour : List Colour} {path : List ℕ} {looks : ℕ} {todo : List ℕ} {colour' : List Colour} {path' : List ℕ} {looks' : ℕ} {todo₁ todo₂ : List ℕ} → todo₁ ≡ todo₂
      → Goes g depth colour path looks todo colour' path' looks' todo₁ → Goes g depth colour path looks todo colour' path' looks' todo₂
  goes_as {colour} {path} {looks} {todo} {colour'} {path'} {looks'} e h = subst (Goes g depth colour path looks todo colour' path' looks') e h

  goes_on : {colour : List Colour} {path : List ℕ} {looks : ℕ} {todo : List ℕ} {colour₁ : List Colour} {path₁ : List ℕ} {looks₁ : ℕ} {todo₁ : List ℕ} {colour₂ : List Colour} {path₂ : List ℕ} {looks₂ : ℕ} {todo₂ : List ℕ}
      → Goes g depth colour path looks todo colour₁ path₁ looks₁ todo₁ → Goes g depth colour₁ path₁ looks₁ todo₁ colour₂ path₂ looks₂ todo₂
      → Goes g depth colour path looks todo colour₂ path₂ looks₂ todo₂
  goes_on h k =
      record {
        fewer = omega (arith, h.fewer, k.fewer);
        right = λ P cl f p s b.
            let r = h.right P cl f p s b in
            let q = k.right P r.0 f r.1 r.2 (omega (arith, h.fewer, b)) in
            (q.0, q.1, q.2, r.3 ∙ q.3);
      }

  module _ {colour : List Colour} {path : List ℕ} (looks : ℕ) {s : ℕ} (rest : List ℕ) (b : s < 512) where
    -- a cleared successor is passed over
    goes_skip : get_or colour s Free ≡ Cleared → Goes g depth colour path looks (s ∷ rest) colour path (looks + 1) rest
    goes_skip e =
        record {
          fewer = le_refl (free colour);
          right = λ P cl f p h q. (
            cl,
            p,
            h,
            ap (more looks) ((scan_going eqb (enter eqb (row g) f) P).skip s rest cl (h.on s b ∙ ap is_on e) (h.off s b ∙ ap is_off e))
                ∙ more_more looks 1 (scan eqb (enter eqb (row g) f) P rest cl),
          );
        }

    -- a free successor is entered and cleared
    goes_clear : {colour' : List Colour} {path' : List ℕ} {end : Option ℕ} {n : ℕ} → depth + 1 ≤ length path → get_or colour s Free ≡ Free
        → Enters g colour path (depth + 1) s colour' path' end n → is_some end ≡ false
        → Goes g depth colour path looks (s ∷ rest) colour' path' (looks + 1 + n) rest
    unfolding after
    goes_clear {colour'} {path'} {end} {n} room e h z =
        record {
          fewer = h.fewer;
          right = λ P cl f p i q.
              let alike : Alike (enter eqb (row g) f P s cl) P s colour' path' end n = subst (λ (l : List ℕ). Alike (enter eqb (row g) f l s cl) l s colour' path' end n) p (h.right cl f (subst (λ (l : List ℕ). Colours colour l cl) (sym p) i) q) in
              let len : length P ≡ depth + 1 = ap length (sym p) ∙ length-take-le (depth + 1) path room in
              cleared P cl f len (i.on s b ∙ ap is_on e) (i.off s b ∙ ap is_off e) (enter eqb (row g) f P s cl) refl alike;
        }
      where
        cleared : (P cl : List ℕ) (f : ℕ) → length P ≡ depth + 1 → mem eqb s P ≡ false → mem eqb s cl ≡ false → (o : Search ℕ) → enter eqb (row g) f P s cl ≡ o → Alike o P s colour' path' end n
            → (cl' : List ℕ) × (take (depth + 1) path' ≡ P) × Colours colour' P cl' × (more looks (scan eqb (enter eqb (row g) f) P (s ∷ rest) cl) ≡ more (looks + 1 + n) (scan eqb (enter eqb (row g) f) P rest cl'))
        cleared P cl f len m₁ m₂ (found c k) o a = absurd (true≢false (sym (ap is_some a.is) ∙ z))
        cleared P cl f len m₁ m₂ (clear cl₁ k) o a =
            let rec : List ℕ → ℕ → List ℕ → Search ℕ = enter eqb (row g) f in
            let go : List ℕ → Search ℕ = λ (x : List ℕ). scan eqb rec P rest (s ∷ x) in
            let e₁ : scan eqb rec P (s ∷ rest) cl ≡ more 1 (more k (go cl₁)) = (scan_going eqb rec P).entry s rest cl m₁ m₂ ∙ ap (λ (y : Search ℕ). more 1 (after y go)) o in (
              s ∷ cl₁,
              subst (λ (y : ℕ). take y path' ≡ P) len a.kept,
              a.colours,
              ap (more looks) e₁ ∙ more_more looks 1 (more k (go cl₁)) ∙ more_more (looks + 1) k (go cl₁) ∙ ap (λ (y : ℕ). more (looks + 1 + y) (go cl₁)) a.counted,
            )

-- What the loop of `enter` keeps: the successors below s are done.
pub record Looking (g : List ℕ) (depth node : ℕ) (colour₀ : List Colour) (path₀ : List ℕ) (looks₀ : ℕ) (colour : List Colour) (path : List ℕ) (looks s : ℕ) : Type 0 where
  pub wide : length colour ≡ 512
  pub long : length path ≡ 513
  pub upto : s ≤ 512
  pub goes : Goes g depth colour₀ path₀ looks₀ (row g node) colour path looks (row_from g node s)
  pub bounded : looks + 512 * free colour ≤ looks₀ + 512 * free colour₀ + s

looking_start : {g : List ℕ} {depth node : ℕ} {colour : List Colour} {path : List ℕ} {looks : ℕ} → length colour ≡ 512 → length path ≡ 513 → Looking g depth node colour path looks colour path looks 0
looking_start {g} {node = node} {colour} {path} {looks} w p = record { wide = w; long = p; upto = zero-le; goes = goes_none colour path looks (row g node); bounded = omega arith }

module _ {g : List ℕ} {depth node : ℕ} {colour₀ : List Colour} {path₀ : List ℕ} {looks₀ : ℕ} {colour : List Colour} {path : List ℕ} {looks s b : ℕ}
    (l : Looking g depth node colour₀ path₀ looks₀ colour path looks s) (n : First g node s b) where
  -- the successor to look at, and those behind it
  at_hand : Goes g depth colour₀ path₀ looks₀ (row g node) colour path looks (b ∷ row_from g node (b + 1))
  at_hand = goes_as (first_names n) l.goes

  going_on : {colour' : List Colour} {path' : List ℕ} {looks' : ℕ} → length colour' ≡ 512 → length path' ≡ 513
      → Goes g depth colour path looks (b ∷ row_from g node (b + 1)) colour' path' looks' (row_from g node (b + 1))
      → looks' + 512 * free colour' ≤ looks + 1 + 512 * free colour → Looking g depth node colour₀ path₀ looks₀ colour' path' looks' (b + 1)
  going_on w p h k = record { wide = w; long = p; upto = omega (arith, n.name); goes = goes_on at_hand h; bounded = omega (arith, l.bounded, n.after, k) }

  pub looking_skip : get_or colour b Free ≡ Cleared → Looking g depth node colour₀ path₀ looks₀ colour path (looks + 1) (b + 1)
  looking_skip e = going_on l.wide l.long (goes_skip looks (row_from g node (b + 1)) n.name e) (omega arith)

  pub looking_clear : {colour' : List Colour} {path' : List ℕ} {end : Option ℕ} {k : ℕ} → depth < 512 → get_or colour b Free ≡ Free → length colour' ≡ 512 → length path' ≡ 513
      → Enters g colour path (depth + 1) b colour' path' end k → is_some end ≡ false → Looking g depth node colour₀ path₀ looks₀ colour' path' (looks + 1 + k) (b + 1)
  looking_clear room e w p h z = going_on w p (goes_clear looks (row_from g node (b + 1)) n.name (omega (arith, room, l.long)) e h z) (omega (arith, h.bounded))

-- what a call of `enter` asks, and what the types of its arguments say
pub record Entering (colour : List Colour) (path : List ℕ) (depth node : ℕ) : Type 0 where
  pub asked : CanEnter colour depth node
  pub wide : length colour ≡ 512
  pub long : length path ≡ 513

pub entering : {colour : List Colour} {path : List ℕ} {depth node : ℕ} → CanEnter colour depth node → length colour ≡ 512 → length path ≡ 513 → Entering colour path depth node
entering a w l = record { asked = a; wide = w; long = l }

-- From the call of `enter` on.
module _ {colour : List Colour} {path : List ℕ} {depth node : ℕ} (can : Entering colour path depth node) where
  marked : suc (free (set colour node OnPath)) ≡ free colour
  unfolding weight
  marked = free_mark colour node OnPath (omega (arith, can.asked.name, can.wide)) can.asked.new refl

  pub room : depth < 512
  room = omega (arith, can.asked.room, marked)

  front_length : length (take depth path) ≡ depth
  front_length = length-take-le depth path (omega (arith, room, can.long))

  pub looking_from : {g : List ℕ} → Looking g depth node (set colour node OnPath) (set path depth node) 0 (set colour node OnPath) (set path depth node) 0 0
  looking_from = looking_start (length-set colour node OnPath ∙ can.wide) (length-set path depth node ∙ can.long)

  -- the definition's fuel is one more than some number, since `node` is free
  fuelled : (g : List ℕ) (colour' : List Colour) (path' : List ℕ) (end : Option ℕ) (looks : ℕ)
      → ((cl : List ℕ) (f : ℕ) → Colours colour (take depth path) cl → free colour ≤ suc f → Alike (enter eqb (row g) (suc f) (take depth path) node cl) (take depth path) node colour' path' end looks)
      → (cl : List ℕ) (f : ℕ) → Colours colour (take depth path) cl → free colour ≤ f → Alike (enter eqb (row g) f (take depth path) node cl) (take depth path) node colour' path' end looks
  fuelled g colour' path' end looks each cl zero h b = absurd (omega (arith, b, marked))
  fuelled g colour' path' end looks each cl (suc f) h b = each cl f h b

  module _ {g : List ℕ} {colour₁ : List Colour} {path₁ : List ℕ} {looks₁ : ℕ} {todo₁ : List ℕ} (goes : Goes g depth (set colour node OnPath) (set path depth node) 0 (row g node) colour₁ path₁ looks₁ todo₁) where
    -- what the definition has come to
    so_far : (cl : List ℕ) (f : ℕ) → Colours colour (take depth path) cl → free colour ≤ suc f
        → (cl' : List ℕ) × (take (depth + 1) path₁ ≡ take depth path ++ (node ∷ [])) × Colours colour₁ (take depth path ++ (node ∷ [])) cl'
        × (enter eqb (row g) (suc f) (take depth path) node cl ≡ more looks₁ (scan eqb (enter eqb (row g) f) (take depth path ++ (node ∷ [])) todo₁ cl'))
    unfolding enter
    so_far cl f h b =
        let P : List ℕ = take depth path ++ (node ∷ []) in
        let r =
        goes.right
        P
        cl
        f
        (ap (λ (k : ℕ). take k (set path depth node)) (add-one depth) ∙ take-suc-set path depth node (omega (arith, room, can.long)))
        (colours_mark colour node can.wide can.asked.name (take depth path) cl can.asked.new h)
        (omega (arith, marked, b)) in
        (r.0, r.1, r.2, sym (more_none (scan eqb (enter eqb (row g) f) P (row g node) cl)) ∙ r.3)

    -- all successors are looked at, and none closed a loop
    enters_clear : length colour₁ ≡ 512 → todo₁ ≡ [] → looks₁ + 512 * free colour₁ ≤ 512 * free colour → Enters g colour path depth node (set colour₁ node Cleared) path₁ None looks₁
    unfolding scan more weight
    enters_clear wide none bound =
        let fewer : free (set colour₁ node Cleared) ≤ free colour₁ = free_set colour₁ node Cleared refl in
        record {
          fewer = omega (arith, goes.fewer, marked);
          bounded = omega arith;
          right = fuelled
              g
              (set colour₁ node Cleared)
              path₁
              None
              looks₁
              (λ cl f h b.
              let r = so_far cl f h b in
              let P : List ℕ = take depth path ++ (node ∷ []) in
              subst
              (λ (o : Search ℕ). Alike o (take depth path) node (set colour₁ node Cleared) path₁ None looks₁)
              (sym (r.3 ∙ ap (λ (l : List ℕ). more looks₁ (scan eqb (enter eqb (row g) f) P l r.0)) none))
              (record {
                nothing = refl;
                counted = add-zero looks₁;
                kept =
                    ap (λ (k : ℕ). take k path₁) front_length
                    ∙ sym (take-take depth (depth + 1) path₁ (omega arith))
                    ∙ ap (take depth) r.1
                    ∙ take_at (take depth path) (node ∷ []) depth front_length;
                colours = colours_clear colour₁ node wide can.asked.name (take depth path) r.0 (h.on node can.asked.name ∙ ap is_on can.asked.new) r.2;
              }));
        }

    module _ {s : ℕ} {rest : List ℕ} (todo : todo₁ ≡ s ∷ rest) (b : s < 512) (bound : looks₁ + 1 + 512 * free colour₁ ≤ 512 * free colour) where
      -- a look at a name on the path
      enters_loop : length path₁ ≡ 513 → get_or colour₁ s Free ≡ OnPath → Enters g colour path depth node colour₁ (set path₁ (depth + 1) s) (Some (depth + 2)) (looks₁ + 1)
      unfolding more
      enters_loop long e =
          let deep : depth + 1 < length path₁ = omega (arith, room, long) in
          let last : depth + 2 - 1 ≡ depth + 1 = omega arith in
          let next : depth + 2 ≡ suc (depth + 1) = omega arith in
          record {
            fewer = omega (arith, goes.fewer, marked);
            bounded = bound;
            right = fuelled
                g
                colour₁
                (set path₁ (depth + 1) s)
                (Some (depth + 2))
                (looks₁ + 1)
                (λ cl f h q.
                let r = so_far cl f h q in
                let P : List ℕ = take depth path ++ (node ∷ []) in
                let on : mem eqb s P ≡ true = r.2.on s b ∙ ap is_on e in
                subst
                (λ (o : Search ℕ). Alike o (take depth path) node colour₁ (set path₁ (depth + 1) s) (Some (depth + 2)) (looks₁ + 1))
                (sym (r.3 ∙ ap (λ (l : List ℕ). more looks₁ (scan eqb (enter eqb (row g) f) P l r.0)) todo ∙ ap (more looks₁) ((scan_going eqb (enter eqb (row g) f) P).loop s rest r.0 on)))
                (record {
                  at = depth + 2;
                  is = refl;
                  there = record {
                    some = omega arith;
                    fits = omega (arith, room);
                    loop =
                        sym (from_snoc s P on)
                        ∙ ap (λ (l : List ℕ). from_first eqb s (l ++ (s ∷ []))) (sym r.1)
                        ∙ ap (from_first eqb s) (sym (take-suc-set path₁ (depth + 1) s deep))
                        ∙ ap (λ (k : ℕ). from_first eqb s (take k (set path₁ (depth + 1) s))) (sym next)
                        ∙ ap (λ (x : ℕ). from_first eqb x (take (depth + 2) (set path₁ (depth + 1) s))) (sym (ap (λ (k : ℕ). get_or (set path₁ (depth + 1) s) k 0) last ∙ get_or-set_same path₁ (depth + 1) s 0 deep));
                  };
                  counted = refl;
                }));
          }

      -- a loop behind a free successor
      enters_deeper : {colour₂ : List Colour} {path₂ : List ℕ} {end : Option ℕ} {n : ℕ} → get_or colour₁ s Free ≡ Free
          → Enters g colour₁ path₁ (depth + 1) s colour₂ path₂ end n → is_some end ≡ true
          → Enters g colour path depth node colour₂ path₂ end (looks₁ + 1 + n)
      unfolding after more
      enters_deeper {colour₂} {path₂} {end} {n} e k z =
          record {
            fewer = omega (arith, goes.fewer, marked, k.fewer);
            bounded = omega (arith, bound, k.bounded);
            right = fuelled
                g
                colour₂
                path₂
                end
                (looks₁ + 1 + n)
                (λ cl f h q.
                let r = so_far cl f h q in
                let P : List ℕ = take depth path ++ (node ∷ []) in
                let alike : Alike (enter eqb (row g) f P s r.0) P s colour₂ path₂ end n =
                subst
                (λ (l : List ℕ). Alike (enter eqb (row g) f l s r.0) l s colour₂ path₂ end n)
                r.1
                (k.right r.0 f (subst (λ (l : List ℕ). Colours colour₁ l r.0) (sym r.1) r.2) (omega (arith, goes.fewer, marked, q))) in
                subst
                (λ (o : Search ℕ). Alike o (take depth path) node colour₂ path₂ end (looks₁ + 1 + n))
                (sym
                (r.3
                ∙ ap (λ (l : List ℕ). more looks₁ (scan eqb (enter eqb (row g) f) P l r.0)) todo
                ∙ ap (more looks₁) ((scan_going eqb (enter eqb (row g) f) P).entry s rest r.0 (r.2.on s b ∙ ap is_on e) (r.2.off s b ∙ ap is_off e))))
                (passed (enter eqb (row g) f P s r.0) P (λ (x : List ℕ). scan eqb (enter eqb (row g) f) P rest (s ∷ x)) alike));
          }
        where
          passed : (o : Search ℕ) (P : List ℕ) (go : List ℕ → Search ℕ) → Alike o P s colour₂ path₂ end n → Alike (more looks₁ (more 1 (after o go))) (take depth path) node colour₂ path₂ end (looks₁ + 1 + n)
          passed (found c m) P go a = record { at = a.at; is = a.is; there = a.there; counted = omega (arith, a.counted) }
          passed (clear c m) P go a = absurd (true≢false (sym z ∙ ap is_some a.nothing))

  -- At the loop's test, and in its body.
  module _ {g : List ℕ} {colour₁ : List Colour} {path₁ : List ℕ} {looks₁ s : ℕ} (l : Looking g depth node (set colour node OnPath) (set path depth node) 0 colour₁ path₁ looks₁ s) where
    pub entered_clear : row_from g node s ≡ [] → Enters g colour path depth node (set colour₁ node Cleared) path₁ None looks₁
    entered_clear h = enters_clear l.goes l.wide h (omega (arith, l.bounded, l.upto, marked))

    module _ {b : ℕ} (n : First g node s b) where
      pub bound_here : looks₁ + 1 + 512 * free colour₁ ≤ 512 * free colour
      bound_here = omega (arith, l.bounded, marked, n.name, n.after)

      pub fits_here : looks₁ + 1 + 512 * free colour₁ ≤ 262144
      fits_here = omega (arith, bound_here, can.asked.room)

      pub can_deeper : get_or colour₁ b Free ≡ Free → CanEnter colour₁ (depth + 1) b
      can_deeper e = record { name = n.name; room = omega (arith, l.goes.fewer, marked, can.asked.room); new = e }

      pub entered_loop : get_or colour₁ b Free ≡ OnPath → Enters g colour path depth node colour₁ (set path₁ (depth + 1) b) (Some (depth + 2)) (looks₁ + 1)
      entered_loop = enters_loop (at_hand l n) refl n.name bound_here l.long

      pub entered_deeper : {colour₂ : List Colour} {path₂ : List ℕ} {end : Option ℕ} {k : ℕ} → get_or colour₁ b Free ≡ Free
          → Enters g colour₁ path₁ (depth + 1) b colour₂ path₂ end k → is_some end ≡ true → Enters g colour path depth node colour₂ path₂ end (looks₁ + 1 + k)
      entered_deeper = enters_deeper (at_hand l n) refl n.name bound_here
