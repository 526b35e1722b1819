use Rattle.std.proofs.Common.{◌≡◌, ◌≤◌, ◌∙◌, length, sym, ap, subst, arith}
use Rattle.std.specs.Prelude.{Some}
use Rattle.std.proofs.lemmas.List.{length-map}
use Rattle.aho_core.specs.Replacement.{pieces_of}
use Rattle.aho_prefilter.specs.Prefilter.{patterns_from}
use Rattle.aho_prefilter.specs.Sizes.{shape_of, sizes_for}
use Rattle.aho_prefilter.specs.Strided.{Marks}
use Rattle.aho_prefilter.specs.declared.prefilter.Searcher.TheVariants.{Strided}
use Rattle.aho_prefilter.specs.declared.strided.sizes.Shape.{Shape}
use Rattle.aho_prefilter.proofs.HeldStrided.{least_head-each, least_head-few, held_or_packed-held, quickest_for-heads, quickest_for-of, quickest_for-other, quickest_for-strided, quickest_for-windows, sizes_for-sized}
use Rattle.aho_prefilter.proofs.prefilter.Prefilter.quickest.Goals as goal

pub returns-then-not-yields-clause-of : goal.returns-then-not-yields-clause-of
returns-then-not-yields-clause-of c = λ kind. held_or_packed-held (patterns_from kind c.args.ignore_case (pieces_of c.args.patterns.now)) c.in_ok-other.other (c.in_ok-other.ensures.held kind)

pub sizes-requires : goal.sizes-requires
sizes-requires c = record { short = subst (λ (s : Shape). s.head ≤ 16) (sym c.of-shape.ensures.of) (least_head-few (pieces_of c.args.patterns.now)) }

pub returns-in-Some-clause-held : goal.returns-in-Some-clause-held
returns-in-Some-clause-held c = λ kind.
    let p = patterns_from kind c.args.ignore_case (pieces_of c.args.patterns.now) in
    quickest_for-windows p c.in_ok-other.other c.in-Some.searcher (c.in_ok-other.ensures.held kind) (sym c.yields.ensures.yields ∙ c.if-not-yields.false) (sym c.in-Some.is ∙ c.in_ok-windows.ensures.held kind)

pub returns-in-Some-clause-of : goal.returns-in-Some-clause-of
returns-in-Some-clause-of c = λ kind.
    let p = patterns_from kind c.args.ignore_case (pieces_of c.args.patterns.now) in
    quickest_for-of p c.in-Some.searcher
    (sym (quickest_for-windows p c.in_ok-other.other c.in-Some.searcher (c.in_ok-other.ensures.held kind) (sym c.yields.ensures.yields ∙ c.if-not-yields.false) (sym c.in-Some.is ∙ c.in_ok-windows.ensures.held kind)))

pub returns-in-Some-packed_heads_for-clause-held : goal.returns-in-Some-packed_heads_for-clause-held
returns-in-Some-packed_heads_for-clause-held c = λ kind.
    let p = patterns_from kind c.args.ignore_case (pieces_of c.args.patterns.now) in
    quickest_for-heads p c.in_ok-other.other c.in-Some-packed_heads_for.searcher (c.in_ok-other.ensures.held kind) (sym c.yields.ensures.yields ∙ c.if-not-yields.false)
    (sym c.in_default.is ∙ c.in_ok-windows.ensures.held kind) (c.in-Some-packed_heads_for.ensures.held kind)

pub returns-in-Some-packed_heads_for-clause-of : goal.returns-in-Some-packed_heads_for-clause-of
returns-in-Some-packed_heads_for-clause-of c = λ kind.
    let p = patterns_from kind c.args.ignore_case (pieces_of c.args.patterns.now) in
    quickest_for-of p c.in-Some-packed_heads_for.searcher
    (sym
    (quickest_for-heads p c.in_ok-other.other c.in-Some-packed_heads_for.searcher (c.in_ok-other.ensures.held kind) (sym c.yields.ensures.yields ∙ c.if-not-yields.false)
    (sym c.in_default.is ∙ c.in_ok-windows.ensures.held kind) (c.in-Some-packed_heads_for.ensures.held kind)))

pub returns-in_default-sizes-clause-held : goal.returns-in_default-sizes-clause-held
returns-in_default-sizes-clause-held c = λ kind.
    let p = patterns_from kind c.args.ignore_case (pieces_of c.args.patterns.now) in
    let found = sym (ap sizes_for c.of-shape.ensures.of) ∙ sym c.sizes.ensures.sizes ∙ c.in_default-sizes.is in
    quickest_for-other p c.in_ok-other.other (c.in_ok-other.ensures.held kind) (sym c.yields.ensures.yields ∙ c.if-not-yields.false) (sym c.in_default.is ∙ c.in_ok-windows.ensures.held kind) (sym c.in_default-packed_heads_for.is ∙ c.packed_heads_for.ensures.held kind) found

pub returns-in_default-sizes-clause-of : goal.returns-in_default-sizes-clause-of
returns-in_default-sizes-clause-of c = λ kind. held_or_packed-held (patterns_from kind c.args.ignore_case (pieces_of c.args.patterns.now)) c.in_ok-other.other (c.in_ok-other.ensures.held kind)

pub new-requires-clause-sized : goal.new-requires-clause-sized
new-requires-clause-sized c =
    let words = pieces_of c.args.patterns.now in
    let found = sym (ap sizes_for c.of-shape.ensures.of) ∙ sym c.sizes.ensures.sizes ∙ c.in-Some-sizes.is in
    (sizes_for-sized (shape_of c.args.ignore_case words) c.in-Some-sizes.sizes (least_head-few words) found).0

pub new-requires-clause-heads : goal.new-requires-clause-heads
new-requires-clause-heads c = λ k below.
    let words = pieces_of c.args.patterns.now in
    let found = sym (ap sizes_for c.of-shape.ensures.of) ∙ sym c.sizes.ensures.sizes ∙ c.in-Some-sizes.is in
    let head = (sizes_for-sized (shape_of c.args.ignore_case words) c.in-Some-sizes.sizes (least_head-few words) found).1 in
    let count : length words ≡ length c.args.patterns.now = length-map c.args.patterns.now (λ piece. piece.now) in
    omega (arith, head, least_head-each words k (omega arith))

pub returns-clause-held : goal.returns-clause-held
returns-clause-held c = λ kind.
    let p = patterns_from kind c.args.ignore_case (pieces_of c.args.patterns.now) in
    let found = sym (ap sizes_for c.of-shape.ensures.of) ∙ sym c.sizes.ensures.sizes ∙ c.in-Some-sizes.is in
    ap (λ (marks : Marks). Some (Strided marks)) c.in_ok-strided.ensures.made
    ∙ quickest_for-strided p c.in_ok-other.other c.in-Some-sizes.sizes (c.in_ok-other.ensures.held kind) (sym c.yields.ensures.yields ∙ c.if-not-yields.false) (sym c.in_default.is ∙ c.in_ok-windows.ensures.held kind) (sym c.in_default-packed_heads_for.is ∙ c.packed_heads_for.ensures.held kind) found

pub returns-clause-of : goal.returns-clause-of
returns-clause-of c = λ kind.
    let p = patterns_from kind c.args.ignore_case (pieces_of c.args.patterns.now) in
    let found = sym (ap sizes_for c.of-shape.ensures.of) ∙ sym c.sizes.ensures.sizes ∙ c.in-Some-sizes.is in
    quickest_for-of p (Strided c.in_ok-strided.strided)
    (sym
    (ap (λ (marks : Marks). Some (Strided marks)) c.in_ok-strided.ensures.made
    ∙ quickest_for-strided p c.in_ok-other.other c.in-Some-sizes.sizes (c.in_ok-other.ensures.held kind) (sym c.yields.ensures.yields ∙ c.if-not-yields.false) (sym c.in_default.is ∙ c.in_ok-windows.ensures.held kind) (sym c.in_default-packed_heads_for.is ∙ c.packed_heads_for.ensures.held kind) found))
