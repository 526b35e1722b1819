use Rattle.std.proofs.Common.{◌≡◌, ℕ, Bool, ◌&&◌, ◌||◌, List, ◌∙◌, Some, None, ap, sym, subst, ◌+◌}
use Rattle.aho_build.specs.TrieGrowth.{EndsAt, IsWordRefusal}
use Rattle.aho_build.specs.Dense.{is_parted_by}
use Rattle.aho_build.specs.Trie.{HoldsFirst}
use Rattle.aho_table.specs.Alphabet.{is_border}
use Rattle.aho_table.specs.Refusal.{refusal_at}
use Rattle.aho_table.specs.Table.{Tables, matches_count}
use Rattle.aho_build.proofs.CountedTrie.{EndsAt-below, HoldsFirst-end, HoldsFirst-left_out}
use Rattle.std.proofs.Math.Bool.{or-false}
use Rattle.aho_build.proofs.RefusedPattern.{IsPatternRefusal-end}
use Rattle.aho_build.proofs.StoppedBuilds.{IfErr-given}
use Rattle.aho_build.proofs.compiler.trie.add_pattern.Goals as goal
use Rattle.aho_build.proofs.compiler.trie.add_pattern.Goals.{in-Some+in_ok-add_match, in_default}

pub add_match-requires : goal.add_match-requires
add_match-requires c =
    let some = c.requires.trie in
    let ends : EndsAt some.0 some.1.0 c.add_word.new.table.states (Some c.in-Some.end) =
    subst (EndsAt some.0 some.1.0 c.add_word.new.table.states) c.in-Some.is (c.in_ok-end.ensures.ends some.0 some.1.0 some.1.1.0 some.1.1.1) in
    record { added = EndsAt-below some.0 some.1.0 c.in-Some.end c.add_word.new.table.states ends }

pub returns-clause-adds : goal.returns-clause-adds
returns-clause-adds c =
    let number = c.args.number in
    let states = c.add_word.new.table.states in
    λ p numbered holds.
    elim c.match-branch-2.branch [
      | in-Some+in_ok-add_match w ↦
          (let ends : EndsAt p number states (Some w.in-Some.end) = subst (EndsAt p number states) w.in-Some.is (c.in_ok-end.ensures.ends p number numbered holds) in
          HoldsFirst-end p number w.in-Some.end states c.match-branch-2.table.states ends.0 ends.1 ends.2 (ap (λ (t : Tables). t.states) (w.table-is ∙ w.in_ok-add_match.ensures.listed)))
      | in_default w ↦
          (let ends : EndsAt p number states None = subst (EndsAt p number states) w.in_default.is (c.in_ok-end.ensures.ends p number numbered holds) in
          subst (λ (t : Tables). HoldsFirst p (number + 1) t.states) (sym w.table-is) (HoldsFirst-left_out p number states ends.0 ends.1))
    ]

pub returns-clause-borders : goal.returns-clause-borders
returns-clause-borders c =
    let number = c.args.number in
    let states = c.add_word.new.table.states in
    λ p numbered holds at below.
    elim c.match-branch-2.branch [
      | in-Some+in_ok-add_match w ↦
          (let ends : EndsAt p number states (Some w.in-Some.end) = subst (EndsAt p number states) w.in-Some.is (c.in_ok-end.ensures.ends p number numbered holds) in
          ap (λ (bs : List Bool). is_border bs at) w.borders-is ∙ w.set_bytes.ensures.borders at below
          ∙ ap (λ (b : Bool). is_border c.args.borders.now at || is_parted_by b c.args.pattern.now at) (sym numbered.case_is)
          ∙ ap (λ (b : Bool). is_border c.args.borders.now at || (b && is_parted_by p.ignore_case c.args.pattern.now at)) (sym ends.0))
      | in_default w ↦
          (let ends : EndsAt p number states None = subst (EndsAt p number states) w.in_default.is (c.in_ok-end.ensures.ends p number numbered holds) in
          ap (λ (bs : List Bool). is_border bs at) w.borders-is ∙ sym (or-false (is_border c.args.borders.now at))
          ∙ ap (λ (b : Bool). is_border c.args.borders.now at || (b && is_parted_by p.ignore_case c.args.pattern.now at)) (sym ends.0))
    ]

pub returns-in_err-add_match-clause-refused : goal.returns-in_err-add_match-clause-refused
returns-in_err-add_match-clause-refused c =
    let states = c.add_word.new.table.states in
    let error = c.in_err-add_match.field-0.0 in
    IfErr-given (IsWordRefusal c.args.settings.now c.args.pattern.now c.args.table.now.limit c.args.table.now.states) c.from_residual-in_err-add_match.result error c.from_residual-in_err-add_match.ensures.1
    (λ p number numbered holds.
    IsPatternRefusal-end p number c.args.table.now.limit c.in-Some.end states error
    (subst (EndsAt p number states) c.in-Some.is (c.in_ok-end.ensures.ends p number numbered holds))
    (subst (λ (n : ℕ). error ≡ refusal_at n (matches_count states)) c.in_ok-end.ensures.limit c.in_err-add_match.ensures.refused))
