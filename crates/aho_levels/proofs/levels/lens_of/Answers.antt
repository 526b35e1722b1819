use Rattle.std.proofs.Common.{◌≡◌, ◌<◌, [], ℕ, List, Bor, ap, arith, get_or, length}
use Rattle.std.proofs.lemmas.List.{get_or-map, length-map}
use Rattle.std.proofs.lemmas.List.Sums.{sum_by_more_le}
use Rattle.aho_core.specs.Replacement.{pieces_of}
use Rattle.aho_levels.proofs.levels.lens_of.Goals as goal

pub new_unchecked-requires : goal.new_unchecked-requires
new_unchecked-requires c =
    let patterns = c.args.patterns.now in
    let at : ℕ = c.loop-pattern.pattern-index in
    let none : Bor (List ℕ) = record { ref_ptr = (0, 0); now = [] } in
    let within : at < length (pieces_of patterns) = omega (arith, c.loop-pattern-test.true, length-map patterns (λ (piece : Bor (List ℕ)). piece.now)) in
    let read : get_or (pieces_of patterns) at [] ≡ (get_or patterns at none).now = get_or-map (λ (piece : Bor (List ℕ)). piece.now) patterns at none [] c.loop-pattern-test.true in
    record { within = omega (arith, sum_by_more_le (λ (w : List ℕ). length w) (pieces_of patterns) at [] within, ap (λ (w : List ℕ). length w) read, c.requires.room) }
