-- Parts of the records: how many records a tree has, what stands in a part of the slices, and what stands behind a record, list records too.
-- Assumes nothing.
use mathlib.Core.Path.{◌≡◌, refl, ap, sym, subst, ◌∙◌}
use mathlib.Core.List.{List, [], ◌∷◌, ◌++◌, append_assoc, append_cancel_right}
use mathlib.Core.Option.{none, some}
use Prim.Native.Nat.{ℕ, zero, suc, ◌+◌, ◌-◌, ◌≤◌, ◌<◌}
use native.Mathlib.Omega.{arith}
use lib.ListN.{length, replicate, get_or, take, drop, length-append, length-take, length-drop, take-append-drop}
use lib.Seq.{take_at, drop_at, drop-append-le, drop-drop}
use Rattle.lustre.specs.Name.{Name, mem}
use Rattle.lustre.specs.Records.{Rec, a_count, word_class, class_in, spell}
use Rattle.lustre.specs.Records as records
use Rattle.lustre.specs.Grammar.{Sort, Class, one, list, a_project, Single, Tree, Trees, follow, Entry, entries, entry, gather, front, got, read, read_project, whole, numbered_rec, each_of, flat_one, flat_part, flat_parts}
use Rattle.lustre.specs.Answer.{no_project, project_in}
use Rattle.demands.specs.Reading.{Each, WritableOne, Writable, Tidy, reads}
use Rattle.demands.proofs.ReadBack.{step, reads_back, same_parts}
use Rattle.demands.proofs.FlatBack.{Writables, written, parts_append, flat_append}
use Rattle.demands.proofs.Reading.{spelled_tidy, whole_project}
use Rattle.records.specs.Stands.{Stands}
use Rattle.records.proofs.Spells.{rec_at, kind_at, number_at, spell_take, spell_drop, spell_length, spell_at}

-- how many records a tree has
abbrev pub size_of : (c : Class) → Tree c → ℕ
size_of c v = length (flat_part c v [])

-- a tree that records can write has one
some_read : (c : Class) (rs : List Rec) (v : Tree c) (rest : List Rec) → reads c rs ≡ got v rest → 0 < length rs
unfolding read
some_read c [] v rest q = let z : ◌≡◌ {A = ℕ} 0 1 = cc in absurd (omega arith)
some_read c (r ∷ rs) v rest q = omega arith

pub some_record : (c : Class) (v : Tree c) → Writable c v → 0 < size_of c v
some_record c v w = some_read c (flat_part c v []) v [] (reads_back c v [] w)

-- records that begin with a tree's are its records and the rest
module _ (c : Class) (v : Tree c) (w : Writable c v) (rs k : List Rec) (q : rs ≡ flat_part c v k) where
  apart : rs ≡ flat_part c v [] ++ k
  apart = q ∙ flat_append c v k w

  whole_length : length rs ≡ size_of c v + length k
  whole_length = ap length apart ∙ length-append (flat_part c v []) k

  first_part : take (size_of c v) rs ≡ flat_part c v []
  first_part = ap (take (size_of c v)) apart ∙ take_at (flat_part c v []) k (size_of c v) refl

  rest_part : drop (size_of c v) rs ≡ k
  rest_part = ap (drop (size_of c v)) apart ∙ drop_at (flat_part c v []) k (size_of c v) refl

-- the trees of classes, and those of a list, stand one after the other
abbrev pub StandAll : (ρ : ℕ → Name) (ks ws : List ℕ) (cs : List Class) → Trees cs → ℕ → ℕ → Type 0
StandAll ρ ks ws [] v at end = at ≡ end
StandAll ρ ks ws (c ∷ cs) v at end = (mid : ℕ) × Stands ρ ks ws c v.0 at mid × StandAll ρ ks ws cs v.1 mid end

abbrev pub ListStands : (ρ : ℕ → Name) (ks ws : List ℕ) (s : Sort) → List (Single s) → ℕ → ℕ → Type 0
ListStands ρ ks ws s [] at end = at ≡ end
ListStands ρ ks ws s (x ∷ xs) at end = (mid : ℕ) × Stands ρ ks ws (one s) x at mid × ListStands ρ ks ws s xs mid end

-- one tree alone, and as many as a record counts
pub stands_alone : (ρ : ℕ → Name) (ks ws : List ℕ) (c : Class) (v : Trees (c ∷ [])) (at end : ℕ) → StandAll ρ ks ws (c ∷ []) v at end → Stands ρ ks ws c v.0 at end
stands_alone ρ ks ws c v at end s = subst (Stands ρ ks ws c v.0 at) s.2 s.1

pub gathered : (ρ : ℕ → Name) (ks ws : List ℕ) (s : Sort) (n : ℕ) (v : Trees (replicate n (one s))) (at end : ℕ) → StandAll ρ ks ws (replicate n (one s)) v at end → ListStands ρ ks ws s (gather s n v) at end
unfolding gather
gathered ρ ks ws s zero v at end h = h
gathered ρ ks ws s (suc n) v at end h = (h.0, h.1, gathered ρ ks ws s n v.1 h.0 end h.2)

writables_front : (cs ds : List Class) (v : Trees (cs ++ ds)) → Writables (cs ++ ds) v → Writables cs (front cs ds v)
unfolding front
writables_front [] ds v w = tt
writables_front (c ∷ cs) ds v w = (w.0, writables_front cs ds v.1 w.1)

-- a tree that is read is its first record's, of trees whose records follow
opened_reads : (c : Class) (r : Rec) (rs : List Rec) (e : Entry c) → entry r.kind (entries c) ≡ some e → (v : Tree c) (k : List Rec) → Tidy rs → reads c (r ∷ rs) ≡ got v k
    → (u : Trees (follow e.shape r.number)) × (v ≡ e.make r.number r.text u) × Writables (follow e.shape r.number) u × (rs ≡ flat_parts (follow e.shape r.number) u k)
unfolding flat_parts
opened_reads c r rs e f v k t q =
    let os = follow e.shape r.number in
    let w = written (os ++ []) (λ x. e.make r.number r.text (front os [] x)) rs v k (sym (step c [] (λ x. x.0) r rs e f) ∙ q) in
    (front os [] w.0, w.1, writables_front os [] w.0 w.2.writable, w.2.flat t ∙ parts_append os [] w.0 k)

module _ (ρ : ℕ → Name) (ks ws : List ℕ) (same : length ks ≡ length ws) where
  abbrev rs : List Rec
  rs = spell ρ ks ws

  pub left_from : (at : ℕ) → length (drop at rs) ≡ length ks - at
  left_from at = length-drop at rs ∙ ap (λ (n : ℕ). n - at) (spell_length ρ ks ws same)

  pub tidy_from : (at : ℕ) → Tidy (drop at rs)
  tidy_from at = subst Tidy (spell_drop ρ at ks ws) (spelled_tidy ρ (drop at ks) (drop at ws))

  -- a part ends at its start and its size
  pub end_size : (c : Class) (v : Tree c) (at end : ℕ) → Stands ρ ks ws c v at end → end ≡ at + size_of c v
  end_size c v at end s = omega (arith, whole_length c v s.writable (drop at rs) (drop end rs) s.flat, left_from at, left_from end, s.before, s.within)

  -- the records of a part are its tree's
  pub part_records : (c : Class) (v : Tree c) (at end : ℕ) → Stands ρ ks ws c v at end → take (end - at) (drop at rs) ≡ flat_part c v []
  part_records c v at end s = let e : end - at ≡ size_of c v = omega (arith, end_size c v at end s) in rw e (first_part c v s.writable (drop at rs) (drop end rs) s.flat)

  -- at a position one tree of a class stands
  pub one_tree : (c : Class) (v w : Tree c) (at end to : ℕ) → Stands ρ ks ws c v at end → Stands ρ ks ws c w at to → (v ≡ w) × (end ≡ to)
  one_tree c v w at end to s t =
      let q = same_parts c v w (drop end rs) (drop to rs) s.writable t.writable (sym s.flat ∙ t.flat) in
      (q.0, omega (arith, ap length q.1, left_from end, left_from to, s.within, t.within))

  -- records that begin with a tree's: the tree stands there
  pub stands_first : (c : Class) (v : Tree c) (at : ℕ) (k : List Rec) → Writable c v → at ≤ length ks → drop at rs ≡ flat_part c v k
      → Stands ρ ks ws c v at (at + size_of c v) × (k ≡ drop (at + size_of c v) rs)
  stands_first c v at k w h q =
      let l = whole_length c v w (drop at rs) k q in
      let d = sym (rest_part c v w (drop at rs) k q) ∙ drop-drop (size_of c v) at rs in
      (record { flat = q ∙ ap (flat_part c v) d; before = omega (arith, some_record c v w); within = omega (arith, left_from at, l); writable = w }, d)

  -- so do trees one after the other
  pub stand_all : (cs : List Class) (v : Trees cs) (at end : ℕ) → Writables cs v → at ≤ length ks → end ≤ length ks → drop at rs ≡ flat_parts cs v (drop end rs) → StandAll ρ ks ws cs v at end
  unfolding flat_parts
  stand_all [] v at end w h g q = omega (arith, ap length q, left_from at, left_from end)
  stand_all (c ∷ cs) v at end w h g q =
      let s = stands_first c v.0 at (flat_parts cs v.1 (drop end rs)) w.0 h q in
      (at + size_of c v.0, s.0, stand_all cs v.1 (at + size_of c v.0) end w.1 s.0.within g (sym s.1))

  stand_each : (s : Sort) (xs : List (Single s)) (at end : ℕ) → Each (WritableOne s) xs → at ≤ length ks → end ≤ length ks → drop at rs ≡ each_of (flat_one s) xs (drop end rs) → ListStands ρ ks ws s xs at end
  unfolding each_of
  stand_each s [] at end w h g q = omega (arith, ap length q, left_from at, left_from end)
  stand_each s (x ∷ xs) at end w h g q =
      let t = stands_first (one s) x at (each_of (flat_one s) xs (drop end rs)) w.0 h q in
      (at + size_of (one s) x, t.0, stand_each s xs (at + size_of (one s) x) end w.1 t.0.within g (sym t.1))

  -- a list record: its kind, its count, and its trees one after the other
  pub list_inv : (s : Sort) (xs : List (Single s)) (at end : ℕ) → Stands ρ ks ws (list s) xs at end → (get_or ks at 0 ≡ 3) × (get_or ws at 0 ≡ length xs) × ListStands ρ ks ws s xs (at + 1) end
  unfolding word_class records.word_classes class_in mem
  list_inv s xs at end t =
      let h : at < length ks = omega (arith, t.before, t.within) in
      let q : rec_at ρ ks ws at ∷ drop (at + 1) rs ≡ numbered_rec 3 (length xs) ∷ each_of (flat_one s) xs (drop end rs) = sym (spell_at ρ ks ws at h same) ∙ t.flat in
      let r : rec_at ρ ks ws at ≡ numbered_rec 3 (length xs) = cc in
      let k : get_or ks at 0 ≡ 3 = sym (kind_at ρ ks ws at) ∙ ap (λ (x : Rec). x.kind) r in
      let n : word_class (get_or ks at 0) ≡ some a_count = ap word_class k in
      (k, sym (number_at ρ ks ws at n) ∙ ap (λ (x : Rec). x.number) r, stand_each s xs (at + 1) end t.writable (omega arith) t.within (cc))

  -- what stands where a record of a kind is: the kind's tree, of what stands behind the record
  pub inv : (c : Class) (v : Tree c) (at end : ℕ) → Stands ρ ks ws c v at end → (e : Entry c) → entry (get_or ks at 0) (entries c) ≡ some e
      → (u : Trees (follow e.shape (rec_at ρ ks ws at).number)) × (v ≡ e.make (rec_at ρ ks ws at).number (rec_at ρ ks ws at).text u)
      × StandAll ρ ks ws (follow e.shape (rec_at ρ ks ws at).number) u (at + 1) end
  inv c v at end s e q =
      let h : at < length ks = omega (arith, s.before, s.within) in
      let f = ap (λ (x : ℕ). entry x (entries c)) (kind_at ρ ks ws at) ∙ q in
      let p = ap (reads c) (sym (spell_at ρ ks ws at h same) ∙ s.flat) ∙ reads_back c v (drop end rs) s.writable in
      let u = opened_reads c (rec_at ρ ks ws at) (drop (at + 1) rs) e f v (drop end rs) (tidy_from (at + 1)) p in
      (u.0, u.1, stand_all _ u.0 (at + 1) end u.2 (omega arith) s.within u.3)

  -- the records of a project: it stands from the first to the last
  pub project_stands : no_project rs ≡ none → Stands ρ ks ws (one a_project) (project_in (whole (read_project rs))) 0 (length ks)
  project_stands q =
      let w = whole_project rs (spelled_tidy ρ ks ws) q in
      let s = stands_first (one a_project) (project_in (whole (read_project rs))) 0 [] w.0 (omega arith) w.1 in
      subst (Stands ρ ks ws (one a_project) (project_in (whole (read_project rs))) 0) (let l = ap length s.1 in let m = left_from (0 + size_of (one a_project) (project_in (whole (read_project rs)))) in let b = s.0.within in omega arith) s.0

  -- A part of the slices, m records from a on: what stands in it stands there in the whole, and what stands there in the whole and ends in it
  -- stands in it.
  module _ (a m : ℕ) (fits : a + m ≤ length ks) where
    abbrev ps : List Rec
    ps = spell ρ (take m (drop a ks)) (take m (drop a ws))

    cut : ps ≡ take m (drop a rs)
    cut = spell_take ρ m (drop a ks) (drop a ws) ∙ ap (take m) (spell_drop ρ a ks ws)

    in_part : length (take m (drop a ks)) ≡ m
    in_part = omega (arith, length-take m (drop a ks), length-drop a ks)

    in_records : length (take m (drop a rs)) ≡ m
    in_records = omega (arith, length-take m (drop a rs), left_from a)

    from_part : (n : ℕ) → n ≤ m → drop (a + n) rs ≡ drop n ps ++ drop m (drop a rs)
    from_part n h = sym (drop-drop n a rs) ∙ ap (drop n) (sym (take-append-drop m (drop a rs))) ∙ drop-append-le n (take m (drop a rs)) (drop m (drop a rs)) (omega (arith, in_records))
        ∙ ap (λ (l : List Rec). drop n l ++ drop m (drop a rs)) (sym cut)

    pub stands_out : (c : Class) (v : Tree c) (at end : ℕ) → Stands ρ (take m (drop a ks)) (take m (drop a ws)) c v at end → Stands ρ ks ws c v (a + at) (a + end)
    stands_out c v at end s =
        let e : end ≤ m = omega (arith, s.within, in_part) in
        record {
          flat = from_part at (omega (arith, s.before)) ∙ ap (λ (l : List Rec). l ++ drop m (drop a rs)) (s.flat ∙ flat_append c v (drop end ps) s.writable)
              ∙ append_assoc (flat_part c v []) (drop end ps) (drop m (drop a rs)) ∙ ap (λ (l : List Rec). flat_part c v [] ++ l) (sym (from_part end e)) ∙ sym (flat_append c v (drop (a + end) rs) s.writable);
          before = omega (arith, s.before);
          within = omega arith;
          writable = s.writable;
        }

    pub stands_in : (c : Class) (v : Tree c) (at end : ℕ) → end ≤ m → Stands ρ ks ws c v (a + at) (a + end) → Stands ρ (take m (drop a ks)) (take m (drop a ws)) c v at end
    stands_in c v at end e s = record {
      flat = append_cancel_right (drop at ps) (flat_part c v (drop end ps)) (drop m (drop a rs))
          (sym (from_part at (omega (arith, s.before))) ∙ s.flat ∙ flat_append c v (drop (a + end) rs) s.writable ∙ ap (λ (l : List Rec). flat_part c v [] ++ l) (from_part end e)
          ∙ sym (append_assoc (flat_part c v []) (drop end ps) (drop m (drop a rs))) ∙ ap (λ (l : List Rec). l ++ drop m (drop a rs)) (sym (flat_append c v (drop end ps) s.writable)));
      before = omega (arith, s.before);
      within = omega (arith, in_part);
      writable = s.writable;
    }
