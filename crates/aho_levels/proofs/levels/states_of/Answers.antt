use Rattle.std.proofs.Common.{◌≡◌, ◌∙◌, [], Bool, List, ap, subst, sym}
use Rattle.aho_core.specs.Patterns.{Patterns}
use Rattle.aho_levels.specs.Building.{AreBare, AreOfTrie, AreOwns, IsGrownTrie, layout_of}
use Rattle.aho_levels.specs.Layout.{StateTables}
use Rattle.aho_levels.specs.Meaning.{AreLevels}
use Rattle.aho_levels.specs.declared.trie.Own.{Own}
use Rattle.aho_levels.specs.declared.trie.Trie.{Trie}
use Rattle.aho_levels.proofs.levels.states_of.Goals as goal

-- the trie in place of a layout's own
abbrev in_layout : Trie → StateTables → StateTables
in_layout trie t = record t { firsts = trie.firsts.items; bytes = trie.bytes.items; depths = trie.depths.items }

abbrev none_of : Bool → StateTables
none_of ignore_case = record {
  firsts = [];
  bytes = [];
  depths = [];
  fails = [];
  rows = [];
  row_count = 0;
  places = [];
  lists = [];
  ignore_case = ignore_case;
}

same-layout : (p : Patterns) (ignore_case : Bool) (trie : Trie) (t made : StateTables) → p.ignore_case ≡ ignore_case → t ≡ made → made ≡ none_of ignore_case
    → layout_of p.ignore_case trie ≡ in_layout trie t
same-layout p ignore_case trie t made case_is is none = ap (λ (b : Bool). layout_of b trie) case_is ∙ sym (ap (in_layout trie) (is ∙ none))

module _ (p : Patterns) (ignore_case : Bool) (trie : Trie) (t made : StateTables) (of : IsGrownTrie p trie) (case_is : p.ignore_case ≡ ignore_case) (is : t ≡ made) (none : made ≡ none_of ignore_case) where
  bare-in : AreBare (in_layout trie t)
  bare-in = subst AreBare (same-layout p ignore_case trie t made case_is is none) of.bare

  of-in : (owns : List Own) → owns ≡ trie.owns.items → AreOfTrie p of.names owns (in_layout trie t)
  of-in owns owns_are = record {
    case_is = sym (ap (λ (l : StateTables). l.ignore_case) (same-layout p ignore_case trie t made case_is is none));
    levels = subst (λ (l : StateTables). AreLevels p of.names l) (same-layout p ignore_case trie t made case_is is none) of.levels;
    owns = subst (λ (os : List Own). AreOwns p of.names os) (sym owns_are) of.owns;
  }

pub link_states-requires-clause-bare : goal.link_states-requires-clause-bare
link_states-requires-clause-bare c =
    let some = c.requires.some in
    bare-in some.0 c.args.ignore_case c.args.trie _ c.new-states.result some.3 some.2 c.states.view_is c.new-states.ensures.none

pub link_states-requires-clause-some : goal.link_states-requires-clause-some
link_states-requires-clause-some c =
    let some = c.requires.some in
    (some.0, some.3.names, some.1, of-in some.0 c.args.ignore_case c.args.trie _ c.new-states.result some.3 some.2 c.states.view_is c.new-states.ensures.none c.deref.result.now c.deref.ensures.value)

pub returns-clause-naming : goal.returns-clause-naming
returns-clause-naming c p kind_is case_is of =
    let owns_are = of-in p c.args.ignore_case c.args.trie _ c.new-states.result of case_is c.states.view_is c.new-states.ensures.none c.deref.result.now c.deref.ensures.value in
    let leads = c.in_ok-link_states.ensures.links p of.names kind_is owns_are in
    let owns = subst (λ (os : List Own). AreOwns p of.names os) (sym c.deref-2.ensures.value) of.owns in
    (of.names, c.in_ok-list_patterns.ensures.lists p of.names owns leads)
