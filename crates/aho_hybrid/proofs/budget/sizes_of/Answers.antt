use Rattle.std.proofs.Common.{◌≡◌, ◌∙◌, ℕ, arith, ap, sym}
use Rattle.aho_core.specs.Numbers.{greatest_index}
use Rattle.aho_core.specs.declared.error.BuildError.{BuildError}
use Rattle.aho_core.specs.declared.error.BuildError.TheVariants.{StateIDOverflow}
use Rattle.aho_build.proofs.StoppedBuilds.{IfErr-given}
use Rattle.aho_corasick.specs.ReadOut.{classes_of, states_of}
use Rattle.aho_hybrid.specs.Filled.{lists_size, moves_size, rows_refusal, told_size}
use Rattle.aho_hybrid.proofs.Numbering.{size-of}
use Rattle.aho_hybrid.proofs.Sizes.{lists-refused, moves-refused, states-refused, told-above, told-again, told-fits}
use Rattle.aho_hybrid.proofs.budget.sizes_of.Goals as goal

pub returns-in_err-fit-clause-refused : goal.returns-in_err-fit-clause-refused
returns-in_err-fit-clause-refused c =
    let nfa = c.args.nfa.now in
    let depth = c.args.row_depth in
    let size = size-of depth (states_of nfa) (classes_of nfa) c.rows_count-with_rows.result c.states_len.result c.args.stride c.rows_count-with_rows.ensures.count c.states_len.ensures.len c.requires.stride in
    let refused = c.in_err-fit.ensures.refused in
    IfErr-given (λ (error : BuildError). error ≡ rows_refusal nfa depth) c.from_residual.result c.in_err-fit.field-0.0 c.from_residual.ensures.1
    (refused.1 ∙ ap (λ (n : ℕ). StateIDOverflow greatest_index (told_size n)) size ∙ sym (states-refused nfa depth (omega (arith, refused.0, size))))

pub returns-in_err-fit-2-clause-refused : goal.returns-in_err-fit-2-clause-refused
returns-in_err-fit-2-clause-refused c =
    let nfa = c.args.nfa.now in
    let depth = c.args.row_depth in
    let size = size-of depth (states_of nfa) (classes_of nfa) c.rows_count-with_rows.result c.states_len.result c.args.stride c.rows_count-with_rows.ensures.count c.states_len.ensures.len c.requires.stride in
    let refused = c.in_err-fit-2.ensures.refused in
    let lists = lists_size nfa in
    IfErr-given (λ (error : BuildError). error ≡ rows_refusal nfa depth) c.from_residual-in_err-fit-2.result c.in_err-fit-2.field-0.0 c.from_residual-in_err-fit-2.ensures.1
    (refused.1
    ∙ ap (λ (n : ℕ). StateIDOverflow greatest_index (told_size n)) c.lists_size-lists.ensures.size
    ∙ ap (λ (n : ℕ). StateIDOverflow greatest_index n) (told-again lists)
    ∙ sym (lists-refused nfa depth (omega (arith, size, c.in_ok-fit.ensures.fits)) (told-above lists (omega (arith, refused.0, c.lists_size-lists.ensures.size)))))

pub returns-in_err-fit-3-clause-refused : goal.returns-in_err-fit-3-clause-refused
returns-in_err-fit-3-clause-refused c =
    let nfa = c.args.nfa.now in
    let depth = c.args.row_depth in
    let size = size-of depth (states_of nfa) (classes_of nfa) c.rows_count-with_rows.result c.states_len.result c.args.stride c.rows_count-with_rows.ensures.count c.states_len.ensures.len c.requires.stride in
    let refused = c.in_err-fit-3.ensures.refused in
    let moves = moves_size nfa depth in
    IfErr-given (λ (error : BuildError). error ≡ rows_refusal nfa depth) c.from_residual-in_err-fit-3.result c.in_err-fit-3.field-0.0 c.from_residual-in_err-fit-3.ensures.1
    (refused.1
    ∙ ap (λ (n : ℕ). StateIDOverflow greatest_index (told_size n)) c.moves_size-moves.ensures.size
    ∙ ap (λ (n : ℕ). StateIDOverflow greatest_index n) (told-again moves)
    ∙ sym (moves-refused nfa depth (omega (arith, size, c.in_ok-fit.ensures.fits)) (told-fits (lists_size nfa) (omega (arith, c.in_ok-fit-2.ensures.fits, c.lists_size-lists.ensures.size)))
    (told-above moves (omega (arith, refused.0, c.moves_size-moves.ensures.size)))))

pub returns-clause-fits : goal.returns-clause-fits
returns-clause-fits c =
    let nfa = c.args.nfa.now in
    let depth = c.args.row_depth in
    let size = size-of depth (states_of nfa) (classes_of nfa) c.rows_count-with_rows.result c.states_len.result c.args.stride c.rows_count-with_rows.ensures.count c.states_len.ensures.len c.requires.stride in
    record {
      states = omega (arith, size, c.in_ok-fit.ensures.fits);
      lists = told-fits (lists_size nfa) (omega (arith, c.in_ok-fit-2.ensures.fits, c.lists_size-lists.ensures.size));
      moves = told-fits (moves_size nfa depth) (omega (arith, c.in_ok-fit-3.ensures.fits, c.moves_size-moves.ensures.size));
    }
