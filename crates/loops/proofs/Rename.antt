-- A walk on names that are renamed: a renaming that keeps names apart carries it over, path, looks and all.
-- Assumes nothing.
use Prim.Native.Nat.{ℕ, zero, suc}
use mathlib.Core.Path.{◌≡◌, refl, sym, ◌∙◌, ap}
use mathlib.Core.Logic.{⊎_elim}
use mathlib.Core.Bool.{Bool}
use mathlib.Core.List.{List, [], ◌∷◌, ◌++◌, map, map-append}
use Rattle.lustre.specs.Name.{mem}
use Rattle.lustre.specs.Walk.{Search, found, clear, more, after, from_first, closing, scan, starts, enter, walk}
use Rattle.demands.specs.Reading.{Each}
use Rattle.demands.proofs.Eaches.{each_append}
use Rattle.demands.proofs.Sets.{split, mem_eq, mem_ne, from_eq, from_ne}
use Rattle.demands.proofs.Clauses.{Going, scan_going, starts_going}

-- every name that a search answers with is one that the renaming is for
abbrev pub EachIn : {A : Type 0} → (A → Type 0) → Search A → Type 0
EachIn D (found c n) = Each D c
EachIn D (clear cl n) = Each D cl

abbrev pub renamed : {A B : Type 0} → (A → B) → Search A → Search B
renamed ρ (found c n) = found (map ρ c) n
renamed ρ (clear cl n) = clear (map ρ cl) n

module _ {A B : Type 0} (eq : A → A → Bool) (eq' : B → B → Bool) (succ : A → List A) (succ' : B → List B) (ρ : A → B) (D : A → Type 0)
    (same : (x y : A) → D x → D y → eq' (ρ x) (ρ y) ≡ eq x y) (edges : (x : A) → D x → succ' (ρ x) ≡ map ρ (succ x)) (stay : (x : A) → D x → Each D (succ x)) where
  map_mem : (x : A) (l : List A) → D x → Each D l → mem eq' (ρ x) (map ρ l) ≡ mem eq x l
  unfolding mem
  map_mem x [] d h = refl
  map_mem x (y ∷ l) d h =
      let q : eq' (ρ x) (ρ y) ≡ eq x y = same x y d h.0 in
      ⊎_elim
      (λ e. mem_eq eq' (ρ x) (ρ y) (map ρ l) (q ∙ e) ∙ sym (mem_eq eq x y l e))
      (λ e. mem_ne eq' (ρ x) (ρ y) (map ρ l) (q ∙ e) ∙ map_mem x l d h.1 ∙ sym (mem_ne eq x y l e))
      (split (eq x y))

  map_from : (x : A) (l : List A) → D x → Each D l → Each D (from_first eq x l) × (from_first eq' (ρ x) (map ρ l) ≡ map ρ (from_first eq x l))
  unfolding from_first
  map_from x [] d h = (tt, refl)
  map_from x (y ∷ l) d h =
      let q : eq' (ρ x) (ρ y) ≡ eq x y = same x y d h.0 in
      let r = map_from x l d h.1 in
      ⊎_elim
      (λ e. rw (from_eq eq x y l e) (h, from_eq eq' (ρ x) (ρ y) (map ρ l) (q ∙ e)))
      (λ e. rw (from_ne eq x y l e) (r.0, from_ne eq' (ρ x) (ρ y) (map ρ l) (q ∙ e) ∙ r.1))
      (split (eq x y))

  map_closing : (s : A) (path : List A) → D s → Each D path → Each D (closing eq s path) × (closing eq' (ρ s) (map ρ path) ≡ map ρ (closing eq s path))
  unfolding closing
  map_closing s path d h =
      let r = map_from s path d h in
      (each_append D (from_first eq s path) (s ∷ []) r.0 (d, tt), ap (λ (l : List B). l ++ (ρ s ∷ [])) r.1 ∙ sym (map-append ρ (from_first eq s path) (s ∷ [])))

  -- a search and the same search with renamed names
  abbrev Alike : Search A → Search B → Type 0
  Alike o o' = EachIn D o × (o' ≡ renamed ρ o)

  more_alike : (k : ℕ) (o : Search A) (o' : Search B) → Alike o o' → Alike (more k o) (more k o')
  unfolding more
  more_alike k (found c n) o' h = (h.0, ap (more k) h.1)
  more_alike k (clear cl n) o' h = (h.0, ap (more k) h.1)

  -- two searches one after the other
  after_alike : (o : Search A) (o' : Search B) (go : List A → Search A) (go' : List B → Search B) → Alike o o' → ((cl : List A) → Each D cl → Alike (go cl) (go' (map ρ cl)))
      → Alike (after o go) (after o' go')
  unfolding after
  after_alike (found c n) o' go go' h k = (h.0, ap (λ (p : Search B). after p go') h.1)
  after_alike (clear cl n) o' go go' h k =
      let r = more_alike n (go cl) (go' (map ρ cl)) (k cl h.0) in
      (r.0, ap (λ (p : Search B). after p go') h.1 ∙ r.1)

  abbrev EnterAlike : (List A → A → List A → Search A) → (List B → B → List B → Search B) → Type 0
  EnterAlike rec rec' = (path : List A) (s : A) (cl : List A) → Each D path → D s → Each D cl → Alike (rec path s cl) (rec' (map ρ path) (ρ s) (map ρ cl))

  -- two that enter names alike go through names alike
  going_alike : (rec : List A → A → List A → Search A) (rec' : List B → B → List B → Search B) (path : List A) (k : ℕ) (go : List A → List A → Search A) (go' : List B → List B → Search B)
      → Going eq rec path k go → Going eq' rec' (map ρ path) k go' → EnterAlike rec rec' → Each D path → (todo cl : List A) → Each D todo → Each D cl → Alike (go todo cl) (go' (map ρ todo) (map ρ cl))
  going_alike rec rec' path k go go' g g' alike p [] cl t c = rw (g.ends cl, g'.ends (map ρ cl)) (c, refl)
  going_alike rec rec' path k go go' g g' alike p (s ∷ ss) cl t c =
      let rest : (cl₁ : List A) → Each D cl₁ → Alike (go ss cl₁) (go' (map ρ ss) (map ρ cl₁)) = λ cl₁ c₁. going_alike rec rec' path k go go' g g' alike p ss cl₁ t.1 c₁ in
      let on : mem eq' (ρ s) (map ρ path) ≡ mem eq s path = map_mem s path t.0 p in
      let off : mem eq' (ρ s) (map ρ cl) ≡ mem eq s cl = map_mem s cl t.0 c in
      ⊎_elim
      (λ e.
      let r = map_closing s path t.0 p in
      rw (g.loop s ss cl e) (r.0, g'.loop (ρ s) (map ρ ss) (map ρ cl) (on ∙ e) ∙ ap (λ (l : List B). found l k) r.1))
      (λ e.
      ⊎_elim
      (λ i. rw (g.skip s ss cl e i, g'.skip (ρ s) (map ρ ss) (map ρ cl) (on ∙ e) (off ∙ i)) (more_alike k (go ss cl) (go' (map ρ ss) (map ρ cl)) (rest cl c)))
      (λ i.
      let then : List A → Search A = λ (x : List A). go ss (s ∷ x) in
      let then' : List B → Search B = λ (x : List B). go' (map ρ ss) (ρ s ∷ x) in
      rw
      (g.entry s ss cl e i, g'.entry (ρ s) (map ρ ss) (map ρ cl) (on ∙ e) (off ∙ i))
      (more_alike
      k
      (after (rec path s cl) then)
      (after (rec' (map ρ path) (ρ s) (map ρ cl)) then')
      (after_alike (rec path s cl) (rec' (map ρ path) (ρ s) (map ρ cl)) then then' (alike path s cl p t.0 c) (λ x h. rest (s ∷ x) (t.0, h)))))
      (split (mem eq s cl)))
      (split (mem eq s path))

  enter_alike : (f : ℕ) → EnterAlike (enter eq succ f) (enter eq' succ' f)
  unfolding enter
  enter_alike zero path s cl p d c = (c, refl)
  enter_alike (suc f) path s cl p d c =
      let on : List A = path ++ (s ∷ []) in
      let rec : List A → A → List A → Search A = enter eq succ f in
      let rec' : List B → B → List B → Search B = enter eq' succ' f in
      rw
      (edges s d, ← map-append ρ path (s ∷ []))
      (going_alike rec rec' on 1 (scan eq rec on) (scan eq' rec' (map ρ on)) (scan_going eq rec on) (scan_going eq' rec' (map ρ on)) (enter_alike f) (each_append D path (s ∷ []) p (d, tt)) (succ s) cl (stay s d) c)

  -- the same path, renamed, and as many looks
  pub walk_renamed : (f : ℕ) (vs : List A) → Each D vs → Alike (walk eq succ f vs) (walk eq' succ' f (map ρ vs))
  unfolding walk
  walk_renamed f vs h =
      let rec : List A → A → List A → Search A = enter eq succ f in
      let rec' : List B → B → List B → Search B = enter eq' succ' f in
      going_alike rec rec' [] 0 (starts eq rec) (starts eq' rec') (starts_going eq rec) (starts_going eq' rec') (enter_alike f) tt vs [] h tt
