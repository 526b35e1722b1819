-- The arguments are pairs, and the searcher is that of the patterns.
use Rattle.std.proofs.Common.{◌∙◌, [], ap, length, map, string_bytes, refl, inr}
use Rattle.std.proofs.lemmas.List.{length-map}
use Rattle.std.proofs.lemmas.Result.{IfErr-weaker}
use Rattle.aho_core.specs.Replacement.{pieces_of}
use Rattle.aho_build.proofs.StoppedBuilds.{IfErr-given}
use Rattle.tool_parts.specs.Asked.{patterns_to_replace, replacing_for}
use Rattle.tool_parts.proofs.Pairs.{as_many, shown}
use Rattle.tool_parts.proofs.Replacings.{begins_whole, leaves_write, ok_given, replaces_kept}
use Rattle.tool_parts.proofs.Searched.{built_to_replace, piece_each}
use Rattle.tool_parts.proofs.replace.replace.Goals as goal

pub searcher_by-searcher-requires : goal.searcher_by-searcher-requires
searcher_by-searcher-requires g c =
    record { of = rw c.new.ensures.new (c.in_ok-automaton.ensures.of (record { patterns = pieces_of c.as_slice-patterns.result.now; pieces = [] }) refl) }

pub replace_all-requires : goal.replace_all-requires
replace_all-requires g c =
    let asked = replacing_for (map string_bytes c.args.arguments.now) in
    let patterns = shown c.as_slice-patterns.ensures.value c.in_ok-pairs.ensures.patterns in
    record {
      one_each = piece_each (patterns_to_replace asked) c.searcher_by-searcher.result c.as_slice-pieces.result.now
          (built_to_replace asked c.new.result c.as_slice-patterns.result.now c.searcher_by-searcher.result c.new.ensures.new patterns c.searcher_by-searcher.ensures.of)
          (as_many _ _ c.requires.even ∙ ap length (shown c.as_slice-pieces.ensures.value c.in_ok-pairs.ensures.pieces) ∙ length-map _ _);
    }

pub returns-in_err-replace_all-clause-built_first : goal.returns-in_err-replace_all-clause-built_first
returns-in_err-replace_all-clause-built_first g c =
    inr (c.in_ok-automaton.ensures.accepted (replacing_for (map string_bytes c.args.arguments.now)) (shown c.as_slice-patterns.ensures.value c.in_ok-pairs.ensures.patterns))

pub returns-in_err-replace_all-clause-leaves : goal.returns-in_err-replace_all-clause-leaves
returns-in_err-replace_all-clause-leaves g c =
    let asked = replacing_for (map string_bytes c.args.arguments.now) in
    let patterns = shown c.as_slice-patterns.ensures.value c.in_ok-pairs.ensures.patterns in
    IfErr-given _ _ _ c.from_residual-in_err-replace_all.ensures.1
    (c.in_err-replace_all.ensures.leaves asked (shown c.as_slice-pieces.ensures.value c.in_ok-pairs.ensures.pieces)
    (built_to_replace asked c.new.result c.as_slice-patterns.result.now c.searcher_by-searcher.result c.new.ensures.new patterns c.searcher_by-searcher.ensures.of))

pub returns-clause-built_first : goal.returns-clause-built_first
returns-clause-built_first g c =
    inr (c.in_ok-automaton.ensures.accepted (replacing_for (map string_bytes c.args.arguments.now)) (shown c.as_slice-patterns.ensures.value c.in_ok-pairs.ensures.patterns))

pub returns-clause-replaces : goal.returns-clause-replaces
returns-clause-replaces g c =
    let asked = replacing_for (map string_bytes c.args.arguments.now) in
    let patterns = shown c.as_slice-patterns.ensures.value c.in_ok-pairs.ensures.patterns in
    let whole = c.in_ok-replace_all.ensures.replaces asked (shown c.as_slice-pieces.ensures.value c.in_ok-pairs.ensures.pieces)
    (built_to_replace asked c.new.result c.as_slice-patterns.result.now c.searcher_by-searcher.result c.new.ensures.new patterns c.searcher_by-searcher.ensures.of) in
    ok_given c.flush.result (replaces_kept _ whole c.flush.ensures.kept)

pub returns-clause-leaves : goal.returns-clause-leaves
returns-clause-leaves g c =
    let asked = replacing_for (map string_bytes c.args.arguments.now) in
    let patterns = shown c.as_slice-patterns.ensures.value c.in_ok-pairs.ensures.patterns in
    let whole = c.in_ok-replace_all.ensures.replaces asked (shown c.as_slice-pieces.ensures.value c.in_ok-pairs.ensures.pieces)
    (built_to_replace asked c.new.result c.as_slice-patterns.result.now c.searcher_by-searcher.result c.new.ensures.new patterns c.searcher_by-searcher.ensures.of) in
    IfErr-weaker c.flush.result _ _ (λ failure of. leaves_write _ _ _ failure of (begins_whole (replaces_kept _ whole c.flush.ensures.kept))) c.flush.ensures.of_write
