use Rattle.std.proofs.Common.{rules, ℕ, List, [], ◌++◌, ◌∙◌, ap, slice_index_or, vec_items}
use Rattle.aho_core.specs.ClosureRun.{CalledOn}
use Rattle.aho_core.specs.Replacement.{pieces_of, replaced}
use Rattle.aho_laws.proofs.ClosureRuns.{ClosureRun-pieces}
use Rattle.aho_automaton.proofs.automaton.Automaton.try_replace_all_bytes.Goals as goal

pub returns-clause-replaced : goal.returns-clause-replaced
returns-clause-replaced g c = λ p ms of finds.
    let run = c.in_ok-try_replace_all_with_bytes.ensures.run p ms of finds in
    let pieces = pieces_of c.args.replace_with.now in
    ClosureRun-pieces vec_items (CalledOn _) c.args.haystack.now (λ m. slice_index_or pieces m.pattern []) _
    (λ m matched d b f' d' k. search rules) ms 0 _ run.0 _ run.1
    ∙ ap (λ (bytes : List ℕ). bytes ++ replaced c.args.haystack.now ms pieces) c.new-dst.ensures.items
