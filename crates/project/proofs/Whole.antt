-- The report is its parts one after another, in the order of lib.rs 134. Assumes nothing.
use Prim.Native.Nat.{ℕ}
use mathlib.Core.List.{[], ◌++◌, map}
use Rattle.lustre.specs.Name.{Name, set_of}
use Rattle.lustre.specs.Project.{Project, skeleton, all_types, all_constants, all_nodes}
use Rattle.lustre.specs.Resolve.{context}
use Rattle.lustre.specs.Report.{tagged, type_lines, alias_numbers, alias_lines, node_name_lines, constant_lines, opening, nodes_lines, report}
use Rattle.lines.specs.declared.Lines.{Lines}
use Rattle.scope.specs.Writes.{Reports}
use Rattle.scope.proofs.Writes.{reports_append}

pub whole_report : (num : Name → ℕ) (P : Project) {l₀ l₁ l₂ l₃ l₄ l₅ : Lines}
    → Reports num (type_lines 0 [] [] (tagged 0 (skeleton P))) l₀ l₁
    → Reports num (alias_lines (context (skeleton P)) (alias_numbers 0 (all_types (skeleton P))) (set_of (map (λ e. e.0) (alias_numbers 0 (all_types (skeleton P)))))) l₁ l₂
    → Reports num (node_name_lines 0 [] (all_nodes (skeleton P))) l₂ l₃
    → Reports num (constant_lines (context (skeleton P)) 0 [] (all_constants (skeleton P))) l₃ l₄
    → Reports num (nodes_lines (context (skeleton P)) 0 (all_nodes P)) l₄ l₅
    → Reports num (report P) l₀ l₅
unfolding report opening
whole_report num P types aliases names constants nodes =
    let s = skeleton P in
    let ns = alias_numbers 0 (all_types s) in
    let ts = type_lines 0 [] [] (tagged 0 s) in
    let as' = alias_lines (context s) ns (set_of (map (λ e. e.0) ns)) in
    let ds = node_name_lines 0 [] (all_nodes s) in
    let cs = constant_lines (context s) 0 [] (all_constants s) in
    reports_append num (ts ++ as' ++ ds ++ cs) (nodes_lines (context s) 0 (all_nodes P))
    (reports_append num (ts ++ as' ++ ds) cs (reports_append num (ts ++ as') ds (reports_append num ts as' types aliases) names) constants)
    nodes
