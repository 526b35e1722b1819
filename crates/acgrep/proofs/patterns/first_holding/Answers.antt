-- One pattern more does not hold the byte.
use Rattle.acgrep.proofs.Common.{cases_lt, pieces_of}
use Rattle.std.proofs.Common.{◌≡◌, [], arith, inl, inr}
use Rattle.std.proofs.lemmas.List.{get_or-map}
use Rattle.std.specs.Prelude.{slice_index_or}
use Rattle.acgrep.proofs.patterns.first_holding.Goals as goal

pub loop-number-preserved : goal.loop-number-preserved
loop-number-preserved c other less =
    let patterns = c.args.patterns.now in
    let number = c.loop-number.number in
    elim (cases_lt other number) [
      | inl before ↦ c.loop-number.invariant other before
      | inr late ↦
          let here : other ≡ number = omega (arith, less, late) in
          let is : slice_index_or (pieces_of patterns) number [] ≡ _ = get_or-map (λ piece. piece.now) patterns number _ [] c.loop-number-test.true in
          rw (here, is) (λ k low high. c.line_end.ensures.none k low (omega (arith, high, c.if-line_end-patterns.false)))
    ]
