-- Laws of the report on a file: what is printed and the status depend on the report alone, where the lines that are lent hold it.
-- Assumes nothing.
use Rattle.std.specs.Prelude.{if◌then◌else◌, Some, None}
use Prim.Native.Nat.{ℕ, ◌≤◌, min}
use native.Mathlib.Omega.{arith}
use mathlib.Core.Path.{◌≡◌, refl, sym, subst, ap, ◌∙◌}
use mathlib.Core.Bool.{Bool, true, false}
use mathlib.Core.List.{List, [], ◌∷◌, ◌++◌, map, append-nil}
use mathlib.Core.Option.{Option, none, some}
use borrow.Author.Tests.{leb-true, eq-eqb, ne_eqb, eqb-true, eqb-false}
use lib.Dec.{eqb, leb}
use lib.ListN.{length, take, drop, length-map}
use lib.Seq.{take_all, take-length, take-append_seam}
use Rattle.lustre.specs.Names.{bad_name, names_of}
use Rattle.lustre.specs.Project.{Project}
use Rattle.lustre.specs.Report.{report, followed}
use Rattle.lustre.specs.Answer.{refusal_of, first_of, project_of, lowest, reported, answer, writes, stored, stored_report, over, lines_after}
use Rattle.lustre.specs.declared.Line.{Line}
use Rattle.lustre.specs.declared.Answer.{Answer}
use Rattle.lustre.specs.declared.Answer.TheVariants.{Report as Reporting, Refused, MoreLines}
use Rattle.lustre.specs.declared.Refusal.TheVariants.{Sizes}
use Rattle.lustre.proofs.Lowest.{refusal_above, reports, passes}
use Rattle.checker.specs.Call.{Checked}
use Rattle.format.specs.File.{Model, parse, kinds_of, text_of, Decoded}
use Rattle.format.specs.Output.{line, header, line_count, output_lines, joined, printed, output_of}
use Rattle.format.specs.Buffers.{Rendered, Filled}
use Rattle.format.specs.declared.Sizes as Format
use Rattle.format.proofs.Fill.{output_whole}
use Rattle.format.proofs.Room.{header_short, output_always, names_short}
use Rattle.format.proofs.Callers.{decoded_none, decoded_some}
use Rattle.response.specs.declared.Response.{Response}
use Rattle.response.specs.declared.Status.TheVariants as Run
use Rattle.response.specs.Response.{any_error, status_of, lines_to, status_to, Answered, Responded}

-- a report is what is left when nothing is refused; refusal 3 does not apply
report_only : (kinds ws text : List ℕ) (work room : ℕ) → refusal_of (answer kinds ws text work room) ≡ 0 → (bad_name text ≡ none) × (answer kinds ws text work room ≡ reported room (project_of kinds ws text))
unfolding answer
report_only kinds ws text work room e =
    let o = reports (lowest kinds ws text work) (reported room (project_of kinds ws text)) e in
    ((passes kinds ws text work o.0).named, o.1)

-- a report has as many lines as it says, and they fit the room
reported_fits : (room : ℕ) (P : Project) → refusal_of (reported room P) ≡ 0 → (first_of (reported room P) ≡ length (report P)) × (length (report P) ≤ room)
unfolding reported
reported_fits room P = go (leb (length (report P)) room) refl
  where
    go : (t : Bool) → leb (length (report P)) room ≡ t → refusal_of (if leb (length (report P)) room then Reporting (length (report P)) (followed P) else MoreLines (min (length (report P)) 18_446_744_073_709_551_615)) ≡ 0 → (first_of (if leb (length (report P)) room then Reporting (length (report P)) (followed P) else MoreLines (min (length (report P)) 18_446_744_073_709_551_615)) ≡ length (report P)) × (length (report P) ≤ room)
    go true e h = (simp e, leb-true (length (report P)) room e)
    go false e h = absurd (let z : ◌≡◌ {A = ℕ} 7 0 = rw e at h in omega arith)

-- what a report says: its names are short, and its lines are those of the definition and fit
pub record Reported (kinds ws text : List ℕ) (room : ℕ) (a : Answer) : Type 0 where
  pub named : bad_name text ≡ none
  pub count : line_count a ≡ length (stored_report kinds ws text)
  pub fits : length (stored_report kinds ws text) ≤ room

-- that of the call's answer
pub is_reported : (kinds ws text : List ℕ) (work room : ℕ) (a : Answer) → a ≡ answer kinds ws text work room → refusal_of a ≡ 0 → Reported kinds ws text room a
unfolding stored_report line_count
is_reported kinds ws text work room a e z =
    let P : Project = project_of kinds ws text in
    let o = report_only kinds ws text work room (ap refusal_of (sym e) ∙ z) in
    let s : a ≡ reported room P = e ∙ o.1 in
    let f = reported_fits room P (ap refusal_of (sym s) ∙ z) in
    let same : length (map (stored (names_of text)) (report P)) ≡ length (report P) = length-map (report P) (stored (names_of text)) in
    record {
      named = o.0;
      count = simp (eq-eqb (refusal_of a) 0 z) (ap first_of s ∙ f.0 ∙ sym same);
      fits = omega (arith, f.1);
    }

-- lines that have room are held
over_holds : (ls lent : List Line) → length ls ≤ length lent → take (length ls) (over ls lent) ≡ ls
unfolding over
over_holds ls lent h = ap (λ (xs : List Line). take (length ls) (xs ++ drop (length ls) lent)) (take_all (length lent) ls h) ∙ take-append_seam ls (drop (length ls) lent)

-- a report is an answer after which lines are written
report_writes : (a : Answer) → refusal_of a ≡ 0 → writes a ≡ true
unfolding writes
report_writes (Reporting lines edges) z = refl
report_writes (Refused r) z = absurd (refusal_above r z)
report_writes (MoreLines needed) z = refl

-- those that fit
report_over : (kinds ws text : List ℕ) (work : ℕ) (lent : List Line) (a : Answer) → a ≡ answer kinds ws text work (length lent) → refusal_of a ≡ 0 → lines_after kinds ws text work lent ≡ over (stored_report kinds ws text) lent
unfolding lines_after
report_over kinds ws text work lent a e z =
    ap (λ (b : Bool). elim b [ true ↦ over (stored_report kinds ws text) lent | false ↦ lent ])
    (report_writes (answer kinds ws text work (length lent)) (ap refusal_of (sym e) ∙ z))

-- no lines are counted behind a refusal
none_counted : (a : Answer) → (refusal_of a ≡ 0 → ⊥) → line_count a ≡ 0
unfolding line_count
none_counted a h = simp (ne_eqb (refusal_of a) 0 h)

-- the lines that are printed after the call are those of the report
pub called_lines : {kinds ws text work work' : List ℕ} {ys ls : List Line} {a : Answer} → Checked kinds ws text work ys a work' ls → take (line_count a) ls ≡ take (line_count a) (stored_report kinds ws text)
called_lines {kinds} {ws} {text} {work} {work'} {ys} {ls} {a} c = go (eqb (refusal_of a) 0) refl
  where
    go : (t : Bool) → eqb (refusal_of a) 0 ≡ t → take (line_count a) ls ≡ take (line_count a) (stored_report kinds ws text)
    go true t =
        let z : refusal_of a ≡ 0 = eqb-true (refusal_of a) 0 t in
        let s = is_reported kinds ws text (length work) (length ys) a c.answered z in
        let due : List Line = stored_report kinds ws text in
        ap (λ (n : ℕ). take n ls) s.count
        ∙ ap (take (length due)) (c.lines ∙ report_over kinds ws text (length work) ys a c.answered z)
        ∙ over_holds due ys s.fits
        ∙ sym (take-length due)
        ∙ ap (λ (n : ℕ). take n due) (sym s.count)
    go false t =
        let h : refusal_of a ≡ 0 → ⊥ = eqb-false (refusal_of a) 0 t in
        ap (λ (n : ℕ). take n ls) (none_counted a h) ∙ ap (λ (n : ℕ). take n (stored_report kinds ws text)) (sym (none_counted a h))

-- what is printed for them
pub called_output : {kinds ws text work work' : List ℕ} {ys ls : List Line} {a : Answer} → Checked kinds ws text work ys a work' ls → output_lines a ls text ≡ output_lines a (stored_report kinds ws text) text
unfolding output_lines
called_output {text = text} {a = a} c = ap (λ (xs : List Line). header a ∷ map (line (names_of text)) xs) (called_lines c)

-- their status
pub called_status : {kinds ws text work work' : List ℕ} {ys ls : List Line} {a : Answer} → Checked kinds ws text work ys a work' ls → status_of a ls ≡ status_of a (stored_report kinds ws text)
unfolding status_of
called_status {a = a} c = ap (λ (xs : List Line). if eqb (refusal_of a) 0 then (if any_error xs then Run.Errors else Run.Clean) else Run.Refused) (called_lines c)

-- a refusal prints its header
refused_output : (a : Answer) (ls : List Line) (text : List ℕ) → (refusal_of a ≡ 0 → ⊥) → output_lines a ls text ≡ header a ∷ []
unfolding output_lines
refused_output a ls text h = ap (λ (n : ℕ). header a ∷ map (line (names_of text)) (take n ls)) (none_counted a h)

-- alone
refused_printed : (a : Answer) (ls : List Line) (text : List ℕ) → (refusal_of a ≡ 0 → ⊥) → printed a ls text ≡ header a
unfolding printed joined
refused_printed a ls text h = ap joined (refused_output a ls text h) ∙ append-nil (header a)

-- its status
refused_status : (a : Answer) (ls : List Line) → (refusal_of a ≡ 0 → ⊥) → status_of a ls ≡ Run.Refused
unfolding status_of
refused_status a ls h = simp (ne_eqb (refusal_of a) 0 h)

-- it fits
refused_whole : (a : Answer) (ls : List Line) (text : List ℕ) {o o' : List ℕ} {r : ℕ} → (refusal_of a ≡ 0 → ⊥) → 175161 ≤ length o → Filled (output_lines a ls text) o 0 r o' → Rendered (printed a ls text) o (Some r) o'
refused_whole a ls text {o} h b f = output_whole a ls text f (omega (arith, header_short a, ap length (refused_printed a ls text h)))

-- the whole output fits
called_whole : (kinds ws text : List ℕ) (work : ℕ) (a : Answer) {o o' : List ℕ} {r : ℕ} → a ≡ answer kinds ws text work 1024 → 175161 ≤ length o → Filled (output_lines a (stored_report kinds ws text) text) o 0 r o' → Rendered (printed a (stored_report kinds ws text) text) o (Some r) o'
called_whole kinds ws text work a {o} {o'} {r} e b f = go (eqb (refusal_of a) 0) refl
  where
    go : (t : Bool) → eqb (refusal_of a) 0 ≡ t → Rendered (printed a (stored_report kinds ws text) text) o (Some r) o'
    go true t =
        let s = is_reported kinds ws text work 1024 a e (eqb-true (refusal_of a) 0 t) in
        output_always a (stored_report kinds ws text) text (names_short text s.named) s.fits b f
    go false t = refused_whole a (stored_report kinds ws text) text (eqb-false (refusal_of a) 0 t) b f

-- the words of what was parsed, none where nothing was
words_of : Option Model → List ℕ
words_of none = []
words_of (some m) = m.words

-- nothing is no model
not_none : {m : Model} → ◌≡◌ {A = Option Model} none (some m) → ⊥
not_none e = let z : ◌≡◌ {A = ℕ} 0 1 = cc in omega arith

-- the call on the parts of a file is the answer to it
pub answered_parts : (file lent₀ ws work work' kinds text : List ℕ) (s : Format.Sizes) (ys ls : List Line) (a : Answer) → Decoded file lent₀ (Some s) ws → kinds ≡ kinds_of (parse file) → text ≡ text_of (parse file)
    → Checked kinds (take s.records ws) text work ys a work' ls → Answered file work ys a work' ls
unfolding kinds_of text_of words_of
answered_parts file lent₀ ws work work' kinds text s ys ls a x ks ts c =
    let p = (decoded_some file lent₀ ws s x).1 in
    record {
      called = λ m e.
          let k : kinds ≡ m.kinds = ks ∙ ap kinds_of e in
          let w : take s.records ws ≡ m.words = ap words_of (sym p ∙ e) in
          let u : text ≡ m.text = ts ∙ ap text_of e in
          rw (sym k, sym w, sym u) c;
      wrong = λ e. absurd (not_none (sym e ∙ p));
    }

-- a wrong file is refusal 1
pub answered_wrong : (file lent₀ ws work : List ℕ) (ys : List Line) → 4096 ≤ length lent₀ → Decoded file lent₀ None ws → Answered file work ys (Refused Sizes) work ys
answered_wrong file lent₀ ws work ys h x =
    let p = decoded_none file lent₀ ws h x in
    record { called = λ m e. absurd (not_none (sym p ∙ e)); wrong = λ _. (refl, refl, refl) }

-- the response to a file, where the program lends its work words and lines
pub responded : (file o o' work work' text : List ℕ) (ys ls : List Line) (a : Answer) (r : Response) → length work ≡ 4096 → length ys ≡ 1024 → Answered file work ys a work' ls → text ≡ text_of (parse file) → Filled (output_lines a ls text) o 0 r.size o' → r.status ≡ status_of a ls → Responded file o r o'
unfolding lines_to status_to text_of output_of
responded file o o' work work' text ys ls a r four d c t f s = go (parse file) refl
  where
    go : (p : Option Model) → parse file ≡ p → Responded file o r o'
    go none e =
        let z : a ≡ Refused Sizes = (c.wrong e).0 in
        let h : refusal_of a ≡ 0 → ⊥ = λ y. let q : ◌≡◌ {A = ℕ} 1 0 = ap refusal_of (sym z) ∙ y in omega arith in
        record {
          filled = rw e (subst (λ bs. Filled bs o 0 r.size o') (refused_output a ls text h ∙ ap (λ (x : Answer). header x ∷ []) z) f);
          whole = λ b. rw e (subst (λ bs. Rendered bs o (Some r.size) o') (refused_printed a ls text h ∙ ap header z) (refused_whole a ls text h b f));
          status = s ∙ refused_status a ls h ∙ sym (ap status_to e);
        }
    go (some m) e =
        let k = c.called m e in
        let due : List Line = stored_report m.kinds m.words m.text in
        let n : text ≡ m.text = t ∙ ap text_of e in
        let w : a ≡ answer m.kinds m.words m.text 4096 1024 = k.answered ∙ (λ i. answer m.kinds m.words m.text (four i) (d i)) in
        let g : Filled (output_lines a due m.text) o 0 r.size o' = subst (λ bs. Filled bs o 0 r.size o') (ap (λ (x : List ℕ). output_lines a ls x) n ∙ called_output k) f in
        record {
          filled = rw e (subst (λ x. Filled (output_lines x due m.text) o 0 r.size o') w g);
          whole = λ b. rw e (subst (λ x. Rendered (printed x due m.text) o (Some r.size) o') w (called_whole m.kinds m.words m.text 4096 a w b g));
          status = s ∙ called_status k ∙ ap (λ (x : Answer). status_of x due) w ∙ sym (ap status_to e);
        }
