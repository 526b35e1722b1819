use Rattle.std.proofs.Common.{◌≡◌, ℕ, List, [], length, ap, ◌∙◌, take, arith}
use Rattle.std.proofs.lemmas.List.{get_or-map, length-map}
use Rattle.aho_core.specs.Replacement.{pieces_of}
use Rattle.aho_prefilter.specs.Strided.{Marks, no_marks}
use Rattle.aho_prefilter.proofs.Tables.{fold-sizes}
use Rattle.aho_prefilter.proofs.strided.Strided.new.Goals as goal

pub add-requires : goal.add-requires
add-requires c =
    let before = pieces_of (take c.loop-pattern.pattern-index c.args.patterns.now) in
    let sizes = ap (λ (m : Marks). m.sizes.head) c.loop-pattern.invariant ∙ ap (λ s. s.head) (fold-sizes before (no_marks c.args.sizes (length c.args.patterns.now))) in
    let count : length (pieces_of c.args.patterns.now) ≡ length c.args.patterns.now = length-map c.args.patterns.now (λ piece. piece.now) in
    let head = c.requires.heads c.loop-pattern.pattern-index (omega (arith, c.loop-pattern-test.true)) in
    let same = get_or-map (λ piece. piece.now) c.args.patterns.now c.loop-pattern.pattern-index (record { ref_ptr = (0, 0); now = [] }) [] c.loop-pattern-test.true in
    record { head = omega (arith, sizes, head, ap (λ (word : List ℕ). length word) same) }
