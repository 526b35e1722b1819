use Rattle.std.proofs.Common.{◌≡◌, ℕ, List, length, sym, ap, ◌∙◌, arith}
use Rattle.std.specs.Prelude.{Some}
use Rattle.std.proofs.lemmas.List.{length-map}
use Rattle.aho_core.specs.Replacement.{pieces_of}
use Rattle.aho_prefilter.specs.PackedHeads.{packed_heads_of}
use Rattle.aho_prefilter.specs.Prefilter.{patterns_from}
use Rattle.aho_prefilter.specs.Sizes.{least_head}
use Rattle.aho_prefilter.specs.Windows.{most_before, windows_of}
use Rattle.aho_prefilter.specs.declared.packed_heads.PackedHeads.{PackedHeads}
use Rattle.aho_prefilter.specs.declared.packed_heads.Tested.TheVariants.{LowFour}
use Rattle.aho_prefilter.specs.declared.prefilter.Searcher.TheVariants.{Windows}
use Rattle.aho_prefilter.proofs.HeldStrided.{least_head-each, least_head-few, windows_for-some}
use Rattle.aho_prefilter.proofs.prefilter.quickest.windows_for.Goals as goal

pub new-search-requires-clause-short : goal.new-search-requires-clause-short
new-search-requires-clause-short c = omega (arith, c.least_head-size.ensures.head, least_head-few (pieces_of c.deref.result.now))

pub new-search-requires-clause-long : goal.new-search-requires-clause-long
new-search-requires-clause-long c = λ k below.
    let same = ap (λ windows. least_head (pieces_of windows)) (c.deref.ensures.value ∙ sym c.deref-2.ensures.value) in
    omega (arith, c.least_head-size.ensures.head, same, least_head-each (pieces_of c.deref-2.result.now) k below)

pub returns-clause-held : goal.returns-clause-held
returns-clause-held c = λ kind.
    let rule = c.args.ignore_case in
    let words = pieces_of c.args.patterns.now in
    let p = patterns_from kind rule words in
    let all = windows_of rule words in
    let first : pieces_of c.deref.result.now ≡ all = ap pieces_of c.deref.ensures.value ∙ c.in_ok-windows.ensures.windows in
    let again : pieces_of c.deref-2.result.now ≡ all = ap pieces_of c.deref-2.ensures.value ∙ c.in_ok-windows.ensures.windows in
    let size : c.least_head-size.result ≡ least_head all = c.least_head-size.ensures.head ∙ ap (λ (ws : List (List ℕ)). least_head ws) first in
    let most : c.most_before-before.result ≡ most_before rule words = c.most_before-before.ensures.most in
    let count : length words ≡ length c.args.patterns.now = length-map c.args.patterns.now (λ piece. piece.now) in
    let search : c.new-search.result ≡ packed_heads_of rule LowFour (least_head all) all =
    c.new-search.ensures.made
    ∙ ap (λ n. packed_heads_of rule LowFour n (pieces_of c.deref-2.result.now)) size
    ∙ ap (λ (ws : List (List ℕ)). packed_heads_of rule LowFour (least_head all) ws) again in
    ap (λ (s : PackedHeads). Some (Windows (record { search = s; before = c.most_before-before.result }))) search
    ∙ ap (λ n. Some (Windows (record { search = packed_heads_of rule LowFour (least_head all) all; before = n }))) most
    ∙ windows_for-some p (omega (arith, count, c.if-patterns-gt-MOST_WITH_WINDOWS.false)) (omega (arith, most, c.if-before-eq0.false)) (omega (arith, most, c.if-before-gt-MOST_BEFORE.false)) (omega (arith, size, c.if-size-lt4.false))
