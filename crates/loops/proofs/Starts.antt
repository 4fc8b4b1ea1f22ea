-- The steps of `search` beside those of the definition's `starts`, and what its answer says of the equations.
-- Assumes nothing.
use Rattle.std.specs.Prelude.{Option, None, Some, IfSome, is_some}
use Rattle.std.proofs.lemmas.List.{append-nil, length-append, take-append-le}
use Rattle.std.proofs.lemmas.Option.{same_Some}
use Prim.Native.Nat.{ℕ, zero, suc, ◌+◌, ◌*◌, ◌-◌, ◌≤◌, ◌<◌, ◌/◌, ◌%◌}
use native.Mathlib.Omega.{arith}
use native.Mathlib.Nat.{le_refl, add-zero}
use mathlib.Core.Path.{◌≡◌, refl, sym, ◌∙◌, ap, subst}
use mathlib.Core.Bool.{true, true≢false}
use mathlib.Core.List.{List, [], ◌∷◌, ◌++◌, map, map-id}
use mathlib.Core.Option.{some}
use lib.ListN.{length, get_or, take, drop, length-drop, replicate, length-replicate, get_or-replicate}
use lib.Seq.{get_or-take, get_or-drop, length-take-le}
use lib.Dec.{eqb}
use Rattle.lustre.specs.Name.{mem}
use Rattle.lustre.specs.Walk.{Search, found, clear, more, after, path_of, looks_of, starts, enter, walk, graph_names}
use Rattle.demands.specs.Reading.{Each}
use Rattle.loops.specs.declared.Colour.{Colour}
use Rattle.loops.specs.declared.Colour.TheVariants.{Free, OnPath, Cleared}
use Rattle.std.specs.declared.ops.Range.{Range}
use Rattle.loops.specs.Rows.{bit, has, row_from, row, First}
use Rattle.loops.specs.Steps.{free, is_on, is_off, Colours, Ends, Alike, CanEnter, Enters, Places}
use Rattle.loops.specs.Search.{Answers, Searches}
use Rattle.loops.proofs.Rows.{first_names, passing_each, passing_same}
use Rattle.demands.proofs.Clauses.{starts_going, more_none, more_more}
use Rattle.loops.proofs.Steps.{free_le}
use Rattle.loops.proofs.Rename.{EachIn, renamed, walk_renamed}
use Rattle.loops.proofs.Texts.{searched_texts}

-- The answer of a walk over numbers stands in the path.
abbrev Shown : Search ℕ → List ℕ → Option (Range ℕ) → ℕ → Type 0
Shown (found c n) path r looks = (f : Range ℕ) × (r ≡ Some f) × (drop f.start (take f.end path) ≡ c) × (looks ≡ n)
Shown (clear cl n) path r looks = (r ≡ None) × (looks ≡ n)

-- so does that answer with the names for the numbers
shown_as : {A : Type 0} (name : ℕ → A) (o : Search ℕ) (path : List ℕ) (r : Option (Range ℕ)) (looks : ℕ) → Shown o path r looks → Answers name (renamed name o) path r looks
unfolding path_of looks_of
shown_as name (found c n) path r looks s = record { loop = rw s.1 (ap (λ (l : List ℕ). some (map name l)) (sym s.2)); counted = s.3 }
shown_as name (clear cl n) path r looks s = record { loop = rw s.0 refl; counted = s.1 }

renamed_none : (o : Search ℕ) → renamed (λ (n : ℕ). n) o ≡ o
renamed_none (found c n) = ap (λ (l : List ℕ). found l n) (map-id c)
renamed_none (clear cl n) = ap (λ (l : List ℕ). clear l n) (map-id cl)

each_at : (P : ℕ → Type 0) (l : List ℕ) (i : ℕ) → Each P l → i < length l → P (get_or l i 0)
each_at P [] i h b = absurd (omega arith)
each_at P (x ∷ l) zero h b = h.0
each_at P (x ∷ l) (suc i) h b = each_at P l i h.1 (omega arith)

shown_known : (P : ℕ → Type 0) (o : Search ℕ) (path : List ℕ) (r : Option (Range ℕ)) (looks : ℕ) → Shown o path r looks → EachIn P o → IfSome r (λ f. f.end ≤ length path)
    → IfSome r (λ f. (k : ℕ) → f.start ≤ k → k < f.end → P (get_or path k 0))
shown_known P (found c n) path r looks s each within =
    let f : Range ℕ = s.0 in
    let b : f.end ≤ length path = rw s.1 at within in
    let len : length (drop f.start (take f.end path)) ≡ f.end - f.start = length-drop f.start (take f.end path) ∙ ap (λ (z : ℕ). z - f.start) (length-take-le f.end path b) in
    rw s.1 (λ k low high.
    let e : k ≡ f.start + (k - f.start) = omega arith in
    subst
    P
    (get_or-drop f.start (take f.end path) (k - f.start) 0 ∙ ap (λ (z : ℕ). get_or (take f.end path) z 0) (sym e) ∙ get_or-take f.end path k 0 high)
    (each_at P (drop f.start (take f.end path)) (k - f.start) (subst (Each P) (sym s.2) each) (omega arith)))
shown_known P (clear cl n) path r looks s each within = rw s.0 tt

searched : {graph defs path : List ℕ} {r : Option (Range ℕ)} {looks : ℕ} → IfSome r (λ f. f.end ≤ 513) → IfSome r (λ f. f.end ≤ length path) → IfSome r (λ f. f.start ≤ f.end) → looks ≤ 262144
    → ((f : ℕ) → 512 ≤ f → Shown (walk eqb (row graph) f (row defs 0)) path r looks) → Searches graph defs path r looks
searched {graph} {defs} {path} {r} {looks} fits within ordered bounded shown =
    let o : ℕ → Search ℕ = λ (f : ℕ). walk eqb (row graph) f (row defs 0) in
    record {
      fits = fits;
      ordered = ordered;
      bounded = bounded;
      numbers = subst (λ (p : Search ℕ). Answers (λ (n : ℕ). n) p path r looks) (renamed_none (o 512)) (shown_as (λ (n : ℕ). n) (o 512) path r looks (shown 512 (le_refl 512)));
      texts = λ qs text names sh.
          let f : ℕ = length (graph_names qs) + 512 in
          subst (λ p. Answers text p path r looks) (sym (searched_texts sh).1) (shown_as text (o f) path r looks (shown f (omega arith)));
      known = λ qs text names sh.
          let f : ℕ = length (graph_names qs) + 512 in
          shown_known (λ (b : ℕ). b < names) (o f) path r looks (shown f (omega arith)) (searched_texts sh).0 within;
    }

-- the names of a row are below 512
row_named : (ws : List ℕ) (a : ℕ) → Each (λ (b : ℕ). b < 512) (row ws a)
unfolding row_from
row_named ws a = passing_each (has ws a) (λ (b : ℕ). b < 512) 512 0 (λ b l u e. omega arith)

-- the first 512 rows are those of the first 4,096 words
row_front : (graph : List ℕ) (a : ℕ) → a < 512 → row (take 4096 graph) a ≡ map (λ (n : ℕ). n) (row graph a)
unfolding row_from has
row_front graph a h =
    passing_same (has (take 4096 graph) a) (has graph a) 512 0 (λ b l u. ap (λ (v : ℕ). bit v (b % 64)) (get_or-take 4096 graph (8 * a + b / 64) 0 (omega arith)))
    ∙ sym (map-id (row graph a))

-- so a walk comes to no others
walk_front : (graph defs : List ℕ) (f : ℕ) → walk eqb (row graph) f (row defs 0) ≡ walk eqb (row (take 4096 graph)) f (row defs 0)
walk_front graph defs f =
    let r =
    walk_renamed eqb eqb (row graph) (row (take 4096 graph)) (λ (n : ℕ). n) (λ (n : ℕ). n < 512) (λ x y h k. refl) (row_front graph) (λ x h. row_named graph x) f (row defs 0) (row_named defs 0) in
    sym (ap (walk eqb (row (take 4096 graph)) f) (sym (map-id (row defs 0))) ∙ r.1 ∙ renamed_none (walk eqb (row graph) f (row defs 0)))

-- the definition's `enter` along `rows`
abbrev enter_along : List ℕ → ℕ → List ℕ → ℕ → List ℕ → Search ℕ
enter_along rows f = enter eqb (row rows) f

-- What the loop over the names to start from keeps, where they are entered along `rows`: those below v are done.
pub record SearchingAlong (rows graph defs : List ℕ) (colour : List Colour) (path : List ℕ) (looks v : ℕ) : Type 0 where
  pub wide : length colour ≡ 512
  pub bounded : looks + 512 * free colour ≤ 262144
  pub right : (f : ℕ) → 512 ≤ f
      → (cl : List ℕ) × Colours colour [] cl × (walk eqb (row graph) f (row defs 0) ≡ more looks (starts eqb (enter_along rows f) (row_from defs 0 v) cl))

-- where they are entered along the graph itself
abbrev pub Searching : (graph defs : List ℕ) (colour : List Colour) (path : List ℕ) (looks v : ℕ) → Type 0
Searching graph defs colour path looks v = SearchingAlong graph graph defs colour path looks v

-- nothing is done yet, and the walk comes to the same names along `rows`
searching_from : {rows graph defs path : List ℕ} → ((f : ℕ) → walk eqb (row graph) f (row defs 0) ≡ walk eqb (row rows) f (row defs 0))
    → SearchingAlong rows graph defs (replicate 512 Free) path 0 0
unfolding walk mem
searching_from {rows} {graph} {defs} {path} same =
    let none : List Colour = replicate 512 Free in
    let len : length none ≡ 512 = length-replicate {A = Colour} 512 Free in
    record {
      wide = len;
      bounded = omega (arith, free_le none);
      right = λ f h. (
        [],
        record { on = λ x b. sym (ap is_on (get_or-replicate 512 x Free Free b)); off = λ x b. sym (ap is_off (get_or-replicate 512 x Free Free b)) },
        same f ∙ sym (more_none (starts eqb (enter_along rows f) (row defs 0) [])),
      );
    }

pub searching_start : {graph defs path : List ℕ} → Searching graph defs (replicate 512 Free) path 0 0
searching_start = searching_from (λ f. refl)

-- along the first 4,096 words
pub searching_front : {graph defs path : List ℕ} → SearchingAlong (take 4096 graph) graph defs (replicate 512 Free) path 0 0
searching_front {graph} {defs} = searching_from (walk_front graph defs)

module _ {rows graph defs : List ℕ} {colour : List Colour} {path : List ℕ} {looks v : ℕ} (l : SearchingAlong rows graph defs colour path looks v) where
  -- no name is left to start from
  pub searched_none : (all : List ℕ) → row_from defs 0 v ≡ [] → Searches graph defs all None looks
  unfolding starts more
  searched_none all h =
      searched
      tt
      tt
      tt
      (omega (arith, l.bounded))
      (λ f b.
      let r = l.right f b in
      subst
      (λ (o : Search ℕ). Shown o all None looks)
      (sym (r.2 ∙ ap (λ (vs : List ℕ). more looks (starts eqb (enter_along rows f) vs r.0)) h))
      (refl, sym (add-zero looks)))

  module _ {b : ℕ} (n : First defs 0 v b) where
    -- the name to start from, and those behind it
    at_hand : (f : ℕ) (h : 512 ≤ f) → walk eqb (row graph) f (row defs 0) ≡ more looks (starts eqb (enter_along rows f) (b ∷ row_from defs 0 (b + 1)) (l.right f h).0)
    at_hand f h = let r = l.right f h in r.2 ∙ ap (λ (vs : List ℕ). more looks (starts eqb (enter_along rows f) vs r.0)) (first_names n)

    -- none of the colours is `OnPath` between two starts
    off_path : get_or colour b Free ≡ OnPath → ⊥
    unfolding mem
    off_path e = true≢false (ap is_on (sym e) ∙ sym ((l.right 512 (le_refl 512)).1.on b n.name))

    passed : (c : Colour) → (c ≡ Free → ⊥) → (c ≡ OnPath → ⊥) → is_off c ≡ true
    passed Free h k = absurd (h refl)
    passed OnPath h k = absurd (k refl)
    passed Cleared h k = refl

    -- it is cleared already
    pub searching_skip : (get_or colour b Free ≡ Free → ⊥) → SearchingAlong rows graph defs colour path looks (b + 1)
    unfolding mem
    searching_skip e =
        record {
          wide = l.wide;
          bounded = l.bounded;
          right = λ f h.
              let r = l.right f h in
              (r.0, r.1, at_hand f h ∙ ap (more looks) ((starts_going eqb (enter_along rows f)).skip b (row_from defs 0 (b + 1)) r.0 refl (r.1.off b n.name ∙ passed (get_or colour b Free) e off_path) ∙ more_none (starts eqb (enter_along rows f) (row_from defs 0 (b + 1)) r.0)));
        }

    module _ (e : get_or colour b Free ≡ Free) where
      pub can_start : CanEnter colour 0 b
      can_start = record { name = n.name; room = omega (arith, free_le colour, l.wide); new = e }

      module _ {colour' : List Colour} {path' : List ℕ} {end : Option ℕ} {k : ℕ} (h : Enters rows colour path 0 b colour' path' end k) where
        pub bound_here : looks + k + 512 * free colour' ≤ 262144
        bound_here = omega (arith, l.bounded, h.bounded)

        -- the definition enters it too
        entered : (f : ℕ) (m : 512 ≤ f)
            → Alike (enter_along rows f [] b (l.right f m).0) [] b colour' path' end k
            × (walk eqb (row graph) f (row defs 0) ≡ more looks (after (enter_along rows f [] b (l.right f m).0) (λ cl. starts eqb (enter_along rows f) (row_from defs 0 (b + 1)) (b ∷ cl))))
        unfolding mem
        entered f m =
            let r = l.right f m in
            let rec : List ℕ → ℕ → List ℕ → Search ℕ = enter_along rows f in (
              h.right r.0 f r.1 (omega (arith, free_le colour, l.wide)),
              at_hand f m
                  ∙ ap
                  (more looks)
                  ((starts_going eqb rec).entry b (row_from defs 0 (b + 1)) r.0 refl (r.1.off b n.name ∙ ap is_off e)
                  ∙ more_none (after (rec [] b r.0) (λ cl. starts eqb rec (row_from defs 0 (b + 1)) (b ∷ cl)))),
            )

        -- and clears it
        pub searching_clear : length colour' ≡ 512 → end ≡ None → SearchingAlong rows graph defs colour' path' (looks + k) (b + 1)
        unfolding after
        searching_clear wide z =
            record {
              wide = wide;
              bounded = bound_here;
              right = λ f m. let r = entered f m in cleared f (enter_along rows f [] b (l.right f m).0) r.0 r.1;
            }
          where
            go : ℕ → List ℕ → Search ℕ
            go f cl = starts eqb (enter_along rows f) (row_from defs 0 (b + 1)) (b ∷ cl)

            cleared : (f : ℕ) (o : Search ℕ) → Alike o [] b colour' path' end k → walk eqb (row graph) f (row defs 0) ≡ more looks (after o (go f))
                → (cl : List ℕ) × Colours colour' [] cl × (walk eqb (row graph) f (row defs 0) ≡ more (looks + k) (starts eqb (enter_along rows f) (row_from defs 0 (b + 1)) cl))
            cleared f (found c m) a q = absurd (true≢false (ap is_some (sym a.is ∙ z)))
            cleared f (clear cl m) a q = (b ∷ cl, a.colours, q ∙ more_more looks m (go f cl) ∙ ap (λ (y : ℕ). more (looks + y) (go f cl)) a.counted)

        -- or finds a loop
        module _ {at : ℕ} (z : end ≡ Some at) where
          found_loop : (f : ℕ) → 512 ≤ f → (c : List ℕ) × (walk eqb (row graph) f (row defs 0) ≡ found c (looks + k)) × Ends path' at c
          unfolding after more
          found_loop f m = let r = entered f m in looped (enter_along rows f [] b (l.right f m).0) r.0 r.1
            where
              looped : (o : Search ℕ) → Alike o [] b colour' path' end k
                  → walk eqb (row graph) f (row defs 0) ≡ more looks (after o (λ cl. starts eqb (enter_along rows f) (row_from defs 0 (b + 1)) (b ∷ cl)))
                  → (c : List ℕ) × (walk eqb (row graph) f (row defs 0) ≡ found c (looks + k)) × Ends path' at c
              looped (found c y) a q = (c, q ∙ ap (λ (x : ℕ). found c (looks + x)) a.counted, subst (λ (x : ℕ). Ends path' x c) (same_Some a.at at (sym a.is ∙ z)) a.there)
              looped (clear cl y) a q = absurd (true≢false (ap is_some (sym z ∙ a.nothing)))

          pub can_place : (1 ≤ at) × (at ≤ 513)
          can_place = let r = found_loop 512 (le_refl 512) in (r.2.some, r.2.fits)

          -- in the front of a longer path
          pub searched_loop_within : {start : ℕ} (behind : List ℕ) → length path' ≡ 513 → Places path' at start → Searches graph defs (path' ++ behind) (Some (record { start = start; end = at })) (looks + k)
          searched_loop_within {start} behind long p =
              searched
              can_place.1
              (omega (arith, can_place.1, long, length-append path' behind))
              (omega (arith, p.before))
              (omega (arith, bound_here))
              (λ f m.
              let r = found_loop f m in
              subst (λ (o : Search ℕ). Shown o (path' ++ behind) (Some (record { start = start; end = at })) (looks + k)) (sym r.1) (record { start = start; end = at }, refl, ap (drop start) (take-append-le at path' behind (omega (arith, can_place.1, long))) ∙ p.loop ∙ sym r.2.loop, refl))

          pub searched_loop : {start : ℕ} → length path' ≡ 513 → Places path' at start → Searches graph defs path' (Some (record { start = start; end = at })) (looks + k)
          searched_loop {start} long p =
              subst (λ (q : List ℕ). Searches graph defs q (Some (record { start = start; end = at })) (looks + k)) (append-nil path') (searched_loop_within [] long p)
