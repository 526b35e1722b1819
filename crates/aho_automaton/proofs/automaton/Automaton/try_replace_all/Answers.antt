use Rattle.std.proofs.Common.{rules, ℕ, List, [], ◌++◌, ◌∙◌, ap, slice_index_or, string_bytes}
use Rattle.aho_core.specs.ClosureRun.{CalledOn}
use Rattle.aho_core.specs.Replacement.{on_boundaries, pieces_of, replaced}
use Rattle.aho_laws.proofs.ClosureRuns.{ClosureRun-pieces}
use Rattle.aho_automaton.proofs.automaton.Automaton.try_replace_all.Goals as goal

pub returns-clause-replaced : goal.returns-clause-replaced
returns-clause-replaced g c = λ p ms of finds.
    let run = c.in_ok-try_replace_all_with.ensures.run p ms of finds in
    let pieces = pieces_of c.args.replace_with.now in
    let kept = on_boundaries c.args.haystack.now ms in
    ClosureRun-pieces string_bytes (CalledOn _) c.args.haystack.now (λ m. slice_index_or pieces m.pattern []) _
    (λ m matched d b f' d' k. search rules) kept 0 _ run.0 _ run.1
    ∙ ap (λ (bytes : List ℕ). bytes ++ replaced c.args.haystack.now kept pieces) c.new-dst.ensures.bytes
