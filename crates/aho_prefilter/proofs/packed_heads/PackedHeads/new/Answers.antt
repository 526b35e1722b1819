use Rattle.std.proofs.Common.{◌≡◌, ℕ, ◌+◌, suc, List, [], ◌∷◌, ◌++◌, length, get_or, sym, ap, ◌∙◌, take, arith}
use Rattle.std.specs.List.{fold}
use Rattle.std.proofs.Math.Seq.{take-suc}
use Rattle.std.proofs.lemmas.List.{get_or-map, length-map, map-append}
use Rattle.std.proofs.lemmas.List.Sums.{fold-append}
use Rattle.aho_core.specs.Replacement.{pieces_of}
use Rattle.aho_prefilter.specs.PackedHeads.{group_among, packed_heads_none, packed_heads_with}
use Rattle.aho_prefilter.specs.declared.packed_heads.PackedHeads.{PackedHeads}
use Rattle.aho_prefilter.proofs.HeadsSound.{fold-size}
use Rattle.aho_prefilter.proofs.packed_heads.PackedHeads.new.Goals as goal

pub add-requires : goal.add-requires
add-requires c =
    let rule = c.args.ignore_case in
    let patterns = c.args.patterns.now in
    let before = pieces_of (take c.loop-pattern.pattern-index patterns) in
    let size = ap (λ (s : PackedHeads). s.heads.size) c.loop-pattern.invariant ∙ fold-size rule (pieces_of patterns) before (packed_heads_none rule c.args.tested c.args.size) in
    let count : length (pieces_of patterns) ≡ length patterns = length-map patterns (λ piece. piece.now) in
    let head = c.requires.long c.loop-pattern.pattern-index (omega (arith, c.loop-pattern-test.true)) in
    let same = get_or-map (λ piece. piece.now) patterns c.loop-pattern.pattern-index (record { ref_ptr = (0, 0); now = [] }) [] c.loop-pattern-test.true in
    record { long = omega (arith, size, head, ap (λ (word : List ℕ). length word) same) }

pub loop-pattern-preserved : goal.loop-pattern-preserved
loop-pattern-preserved c =
    let rule = c.args.ignore_case in
    let patterns = c.args.patterns.now in
    let words = pieces_of patterns in
    let i = c.loop-pattern.pattern-index in
    let pattern = (get_or patterns i (record { ref_ptr = (0, 0); now = [] })).now in
    let step : PackedHeads → List ℕ → PackedHeads = λ search word. packed_heads_with rule (group_among rule words word) search word in
    let none = packed_heads_none rule c.args.tested c.args.size in
    let next : i + 1 ≡ suc i = omega arith in
    let more : pieces_of (take (i + 1) patterns) ≡ pieces_of (take i patterns) ++ pattern ∷ [] =
    ap (λ n. pieces_of (take n patterns)) next
    ∙ ap pieces_of (take-suc patterns i (record { ref_ptr = (0, 0); now = [] }) c.loop-pattern-test.true)
    ∙ map-append (λ piece. piece.now) (take i patterns) (get_or patterns i (record { ref_ptr = (0, 0); now = [] }) ∷ []) in
    c.add.ensures.added
    ∙ ap (λ group. packed_heads_with rule group c.loop-pattern.made pattern) c.group_among-group.ensures.group
    ∙ ap (λ (made : PackedHeads). step made pattern) c.loop-pattern.invariant
    ∙ sym (ap (λ (ws : List (List ℕ)). fold step none ws) more ∙ fold-append step none (pieces_of (take i patterns)) (pattern ∷ []))
