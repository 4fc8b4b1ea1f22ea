-- Demands 2 and 3 of the function `check`, from the theorems about the definition: the lines below the count in the buffer after a call that
-- gets a report are the report's.
-- Assumes nothing.
use Rattle.std.specs.Prelude.{if◌then◌else◌}
use Prim.Native.Nat.{ℕ, zero, suc, ◌+◌, ◌*◌, ◌≤◌, min}
use native.Mathlib.Omega.{arith}
use mathlib.Core.Path.{◌≡◌, refl, sym, ap, subst, ◌∙◌}
use mathlib.Core.Bool.{Bool, true, false}
use mathlib.Core.List.{List, [], ◌∷◌, ◌++◌, map, map-map, flat_map, cons≢nil, Memᴰ}
use mathlib.Core.Option.{Option, none, some}
use lib.Dec.{eqb, leb}
use lib.ListN.{length, drop, length-map}
use lib.Seq.{take_all, get_or-drop}
use borrow.Author.Tests.{eq-eqb}
use Rattle.lustre.specs.Name.{Name}
use Rattle.lustre.specs.Names.{names_of}
use Rattle.lustre.specs.Records.{Rec}
use Rattle.lustre.specs.Project.{Project, NodeKind, Function, Operator, Equation}
use Rattle.lustre.specs.Line as Report
use Rattle.lustre.specs.Report.{report, followed, of_place}
use Rattle.lustre.specs.Node.{path_notes, loop_notes, of_node}
use Rattle.lustre.specs.Walk.{dfs_search, rust_search}
use Rattle.lustre.specs.Answer.{answer, reported, refusal_of, second_of, project_read, project_of, or_none, place_number, writes, stored, stored_report}
use Rattle.lustre.proofs.Blank.{blank_spelled, blank_project, blank_stored, without_text, blank_reported, no_names_refused, names_refused}
use Rattle.lustre.specs.declared.Line.{Line}
use Rattle.lustre.specs.declared.Answer.TheVariants.{Report, MoreLines}
use Rattle.demands.specs.Nodes.{keep, about_node}
use Rattle.demands.specs.Loops as Loops
use Rattle.demands.specs.Demand3 as Given
use Rattle.demands.specs.Demand3.{Said, said, about}
use Rattle.demands.proofs.Keeps.{keep_map}
use Rattle.demands.proofs.Calls.{passed, reported_lines, spoken_name, spoken}
use Rattle.demands.proofs.Loops as LoopsProved
use Rattle.demands.proofs.Demand3 as Proved
use Rattle.demands.proofs.OneEquation as Moves
use Rattle.lines.specs.Lines.{words, room, line_in}
use Rattle.project.specs.Call.{over_words, buffer_after}
use Rattle.project.proofs.Answers.{answer_report, nothing_stored}
use Rattle.project.specs.Demands.{Check, Reported, project, lines_in, lines_of, ReportOf, Demand3, OneEquation, TreeMeant, SomeEquations, UnusedNames, NoRecords, NoStray, loop_lines, path_lines, shown_lines, SearchedLines, Demand2Loops}

-- ---- lines in a buffer

-- a line is the line before it in the rest of the buffer
line_shift : (o : List ℕ) (k : ℕ) → line_in o (suc k) ≡ line_in (drop 6 o) k
unfolding line_in
line_shift o k =
    let e₀ : 6 + k * 6 ≡ suc k * 6 = omega arith in
    let e : (j : ℕ) → 6 + (k * 6 + j) ≡ suc k * 6 + j = λ j. omega arith in
    rw (get_or-drop 6 o (k * 6) 0, get_or-drop 6 o (k * 6 + 1) 0, get_or-drop 6 o (k * 6 + 2) 0, get_or-drop 6 o (k * 6 + 3) 0, get_or-drop 6 o (k * 6 + 4) 0, get_or-drop 6 o (k * 6 + 5) 0, e 1, e 2, e 3, e 4, e 5, e₀)

-- and so are lines
lines_shift : (o : List ℕ) (k n : ℕ) → lines_in o (suc k) n ≡ lines_in (drop 6 o) k n
unfolding lines_in
lines_shift o k zero = refl
lines_shift o k (suc n) = rw (line_shift o k, lines_shift o (suc k) n)

-- the first lines of a buffer that begins with the words of lines are these lines
lines_front : (ls : List Line) (rest : List ℕ) → lines_in (flat_map words ls ++ rest) 0 (length ls) ≡ ls
unfolding lines_in line_in flat_map words
lines_front [] rest = refl
lines_front (l ∷ ls) rest = ap (λ (ms : List Line). l ∷ ms) (lines_shift (flat_map words (l ∷ ls) ++ rest) 0 (length ls) ∙ lines_front ls rest)

-- so many lines are so many
length_lines : (o : List ℕ) (k n : ℕ) → length (lines_in o k n) ≡ n
unfolding lines_in
length_lines o k zero = refl
length_lines o k (suc n) = ap suc (length_lines o (suc k) n)

-- ---- a call that gets a report

-- the call as the definition has it, with as many lines as the buffer has room for
abbrev call : Check → Given.Call
call c = record { kinds = c.kinds; words = c.words; text = c.text; work = c.work; lines = lines_in c.lines 0 (room c.lines) }

-- the edges of a report are those followed
counted : (room : ℕ) (P : Project) (n e : ℕ) → reported room P ≡ Report n e → e ≡ followed P
unfolding reported
counted room P n e = go (leb (length (report P)) room)
  where
    go : (t : Bool) → (if t then Report (length (report P)) (followed P) else MoreLines (min (length (report P)) 18_446_744_073_709_551_615)) ≡ Report n e → e ≡ followed P
    go true q = sym (ap second_of q)
    go false q = absurd (omega (arith, ap refusal_of q))

module _ (c : Check) (r : Reported c) where
  -- the definition's answer is the report
  answered : answer c.kinds c.words c.text (length c.work) (room c.lines) ≡ Report r.count r.edges
  answered = sym c.called.answered ∙ r.is

  -- so the definition's call gets one too
  abbrev given : Given.Reported (call c)
  given = record { count = r.count; edges = r.edges; is = rw (length_lines c.lines 0 (room c.lines)) answered }

  -- the buffer begins with the report's lines
  written : c.lines_after ≡ over_words (stored_report c.kinds c.words c.text) c.lines
  unfolding buffer_after writes
  written = c.called.lines ∙ rw (answered, buffer_after)

  -- so its lines below the count are these
  lines_are : lines_in c.lines_after 0 r.count ≡ stored_report c.kinds c.words c.text
  unfolding over_words stored_report
  lines_are =
      let h = passed (call c) given in
      let ls = stored_report c.kinds c.words c.text in
      let long : length ls ≡ length (report (project c)) = length-map (report (project c)) (stored (names_of c.text)) in
      let room_is = length_lines c.lines 0 (room c.lines) in
      let fits : length ls ≤ room c.lines = omega (arith, h.fits) in
      let same : r.count ≡ length ls = omega (arith, h.counted) in
      rw (written, take_all (room c.lines) ls fits, same) (lines_front ls _)

  -- and they are those of the definition's call
  same_lines : lines_of c r ≡ Given.lines_of (call c) given
  unfolding lines_of stored_report
  same_lines = ap (map (said (names_of c.text))) lines_are ∙ map-map (said (names_of c.text)) (stored (names_of c.text)) (report (project c)) ∙ sym (reported_lines (call c) given)

  -- they are the lines of the report, with names as texts
  pub lines_spoken : lines_of c r ≡ map spoken (report (project c))
  lines_spoken = same_lines ∙ Proved.lines_spoken (call c) given

  -- the records are the project's, and the edges those followed
  pub report_of : ReportOf c r
  report_of =
      record {
        blank = λ b. (blank_spelled c.kinds c.words c.text b, blank_project c.kinds c.words c.text b);
        written = Proved.written (call c) given;
        node = Proved.lent_part (call c) given;
        edges = counted (room c.lines) (project c) r.count r.edges (answer_report c.kinds c.words c.text (length c.work) (room c.lines) r.count r.edges answered);
      }

-- demand 3, by that of the definition
pub demand_3 : Demand3
demand_3 c d r s e = rw (same_lines c r, same_lines d s) (Proved.demand_3 (call c) (call d) (given c r) (given d s) e)

-- what one equation can move, that a tree is meant, and what some equations of a node can move, by the same
pub one_equation : OneEquation
one_equation c d r s i j e = rw (same_lines c r, same_lines d s) (Moves.one_equation (call c) (call d) (given c r) (given d s) i j e)

pub tree_meant : TreeMeant
tree_meant c d r s i j = Moves.tree_meant (call c) (call d) (given c r) (given d s) i j

pub some_equations : SomeEquations
some_equations c d r s i js e part = rw (same_lines c r, same_lines d s) (Moves.some_equations (call c) (call d) (given c r) (given d s) i js e part)

-- equal records are one project, and a report's lines, with names as texts, and edges are functions of it
pub unused_names : UnusedNames
unfolding project_of
unused_names c d r s e = (
  lines_spoken c r ∙ ap (λ (rs : List Rec). map spoken (report (project_read rs))) e ∙ sym (lines_spoken d s),
  (report_of c r).edges ∙ ap (λ (rs : List Rec). followed (project_read rs)) e ∙ sym (report_of d s).edges,
)

-- a call without records, by the definition's answer
pub no_records : NoRecords
no_records c k v short enough =
    let lent : ℕ = room c.lines in
    record {
      blank = λ t.
          let is = blank_reported c.kinds c.words c.text (length c.work) lent k v short enough t in
          let stored = blank_stored c.kinds c.words c.text (without_text c.kinds c.words c.text (length c.work) lent k v short enough t) in
          let left = nothing_stored c.kinds c.words c.text c.work c.lines is stored in
          (c.called.answered ∙ is, c.called.lines ∙ left.0, c.called.worked ∙ left.1);
      names = λ t e. c.called.answered ∙ names_refused c.kinds c.words c.text (length c.work) lent k v short enough t e;
      no_names = λ at e. c.called.answered ∙ no_names_refused c.kinds c.words c.text (length c.work) lent k v short enough at e;
    }

-- every number of a name is a name's, by the same
pub no_stray : NoStray
no_stray c r l m w e = Proved.no_stray (call c) (given c r) l (subst (λ (ls : List Said). Memᴰ l ls) (same_lines c r) m) w e

-- ---- the lines of a loop

-- the first that is kept of a list was in it
kept_in : {A : Type 0} (f : A → Bool) (l : List A) (x : A) (xs : List A) → keep f l ≡ x ∷ xs → Memᴰ x l
kept_in f [] x xs e = absurd (cons≢nil (sym e))
kept_in f (y ∷ l) x xs e = go (f y) e (kept_in f l x xs)
  where
    go : (t : Bool) → (if t then y ∷ keep f l else keep f l) ≡ x ∷ xs → (keep f l ≡ x ∷ xs → Memᴰ x l) → Memᴰ x (y ∷ l)
    go true e ih = let z : x ≡ y = cc in Memᴰ.head z
    go false e ih = Memᴰ.tail (ih e)

-- where nothing is kept, no element passes the test
kept_none : {A : Type 0} (f : A → Bool) (l : List A) (x : A) → Memᴰ x l → f x ≡ true → keep f l ≡ [] → ⊥
kept_none f [] x m t k = elim m [ ]
kept_none f (y ∷ l) x (Memᴰ.head e) t k = cons≢nil (rw (sym e, t) at k)
kept_none f (y ∷ l) x (Memᴰ.tail m) t k = go (f y) k (kept_none f l x m t)
  where
    go : (b : Bool) → (if b then y ∷ keep f l else keep f l) ≡ [] → (keep f l ≡ [] → ⊥) → ⊥
    go true k ih = cons≢nil k
    go false k ih = ih k

-- the lines about node i with code 60 are the same before and after names are told as texts
loops_spoken : (i : ℕ) (ls : List Report.Line) → loop_lines i (map spoken ls) ≡ map spoken (Loops.loop_lines i ls)
unfolding spoken
loops_spoken i ls = rw (Proved.about_spoken i ls) (keep_map (λ l. eqb l.code 60) spoken (λ l. eqb l.remark.note.code 60) (λ l. refl) (about_node i ls))

-- the lines that show a path
path_spoken : (i k : ℕ) (p : List Name) → map spoken (map (λ m. of_place i (of_node m)) (path_notes k p)) ≡ path_lines i k p
unfolding spoken path_notes path_lines of_place of_node spoken_name or_none place_number
path_spoken i k [] = refl
path_spoken i k (x ∷ p) = rw (path_spoken i (suc k) p)

notes_spoken : (i : ℕ) (o : Option (List Name)) → map spoken (map (λ m. of_place i (of_node m)) (loop_notes o)) ≡ shown_lines i o
unfolding loop_notes shown_lines
notes_spoken i none = refl
notes_spoken i (some p) = path_spoken i 0 p

module _ (c : Check) (r : Reported c) (i : ℕ) where
  -- the E0060 lines about node i are the report's
  loops_are : loop_lines i (lines_of c r) ≡ map spoken (Loops.loop_lines i (report (project c)))
  loops_are = ap (loop_lines i) (lines_spoken c r) ∙ loops_spoken i (report (project c))

  module _ (k : NodeKind) (qs : List Equation) (h : Loops.SearchedLines (project c) i k qs) where
    -- where there is a cycle, the lines show a closed path
    path : Loops.Cyclic qs → (p : List Name) × Loops.Closed qs p × (loop_lines i (lines_of c r) ≡ path_lines i 0 p) × (dfs_search qs ≡ some p)
    path y =
        let found = h.path (h.exactly.1 y) in
        (found.0, found.1, loops_are ∙ ap (map spoken) found.2 ∙ path_spoken i 0 found.0, found.3)

    -- where a line has code 60 there is a cycle
    only_if : (l : Said) → Memᴰ l (about i (lines_of c r)) → l.code ≡ 60 → Loops.Cyclic qs
    only_if l m e = h.exactly.0 (λ z. kept_none (λ l. eqb l.code 60) (about i (lines_of c r)) l m (eq-eqb l.code 60 e) (loops_are ∙ ap (map spoken) z))

    -- and where there is a cycle, the first line of the path has it
    if_so : Loops.Cyclic qs → (l : Said) × Memᴰ l (about i (lines_of c r)) × (l.code ≡ 60)
    unfolding path_lines
    if_so y =
        let found = path y in
        let shown = found.2 ∙ ap (path_lines i 0) found.1.shape in
        (_, kept_in (λ l. eqb l.code 60) (about i (lines_of c r)) _ _ shown, refl)

    searched : SearchedLines c r i qs
    searched = record { only_if = only_if; if_so = if_so; path = path }

-- demand 2 on E0060, by that of the definition
pub demand_2_loops : Demand2Loops
demand_2_loops c r i n e =
    let h = LoopsProved.demand_2_loops (project c) i n e in (
      λ k. record {
        searched = searched c r i Operator n.equations (h.0 k).searched;
        rust = λ a. loops_are c r i ∙ ap (map spoken) ((h.0 k).rust a) ∙ notes_spoken i (rust_search n.equations);
      },
      λ k. searched c r i Function n.equations (h.1 k),
      λ k. loops_are c r i ∙ ap (map spoken) (h.2 k),
    )
