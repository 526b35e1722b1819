-- What stays true of a layout of which other parts change.
use Rattle.std.proofs.Common.{◌≡◌, ◌∙◌, ℕ, Bool, List, [], ap, subst, sym}
use Rattle.std.specs.Prelude.{Option}
use Rattle.aho_core.specs.Patterns.{Patterns}
use Rattle.aho_levels.specs.Building.{AreOfTrie, HasSameLinks, HasSameTrie}
use Rattle.aho_levels.specs.Layout.{CanStepThrough, HasChildren, IsSizedTables, IsWalkable, StateTables, child_bytes}
use Rattle.aho_levels.specs.Linking.{AreFolded, AreInLevels}
use Rattle.aho_levels.specs.Meaning.{AreLevels, AreLinked, LeadsAsWords}
use Rattle.aho_levels.specs.declared.trie.Own.{Own}

-- a trie, and nothing else
abbrev pub trie_alone : List ℕ → List ℕ → List ℕ → Bool → StateTables
trie_alone firsts bytes depths ignore_case = record {
  firsts = firsts;
  bytes = bytes;
  depths = depths;
  fails = [];
  rows = [];
  row_count = 0;
  places = [];
  lists = [];
  ignore_case = ignore_case;
}

-- the trie of one layout, and all else of another
abbrev pub with_trie : StateTables → StateTables → StateTables
with_trie old new = record {
  firsts = old.firsts;
  bytes = old.bytes;
  depths = old.depths;
  fails = new.fails;
  rows = new.rows;
  row_count = new.row_count;
  places = new.places;
  lists = new.lists;
  ignore_case = old.ignore_case;
}

pub with_trie-same : (old new : StateTables) → HasSameTrie old new → with_trie old new ≡ new
with_trie-same old new same =
    ap (λ (l : List ℕ). record { firsts = l; bytes = old.bytes; depths = old.depths; fails = new.fails; rows = new.rows; row_count = new.row_count; places = new.places; lists = new.lists; ignore_case = old.ignore_case }) (sym same.firsts)
    ∙ ap (λ (l : List ℕ). record { firsts = new.firsts; bytes = l; depths = old.depths; fails = new.fails; rows = new.rows; row_count = new.row_count; places = new.places; lists = new.lists; ignore_case = old.ignore_case }) (sym same.bytes)
    ∙ ap (λ (l : List ℕ). record { firsts = new.firsts; bytes = new.bytes; depths = l; fails = new.fails; rows = new.rows; row_count = new.row_count; places = new.places; lists = new.lists; ignore_case = old.ignore_case }) (sym same.depths)
    ∙ ap (λ (b : Bool). record { firsts = new.firsts; bytes = new.bytes; depths = new.depths; fails = new.fails; rows = new.rows; row_count = new.row_count; places = new.places; lists = new.lists; ignore_case = b }) (sym same.case_rule)

-- the trie and the links of one, and the lists of another
abbrev pub with_links : StateTables → StateTables → StateTables
with_links old new = record {
  firsts = old.firsts;
  bytes = old.bytes;
  depths = old.depths;
  fails = old.fails;
  rows = old.rows;
  row_count = old.row_count;
  places = new.places;
  lists = new.lists;
  ignore_case = old.ignore_case;
}

pub with_links-same : (old new : StateTables) → HasSameLinks old new → with_links old new ≡ new
with_links-same old new same =
    ap (λ (l : List ℕ). record { firsts = old.firsts; bytes = old.bytes; depths = old.depths; fails = l; rows = old.rows; row_count = old.row_count; places = new.places; lists = new.lists; ignore_case = old.ignore_case }) (sym same.fails)
    ∙ ap (λ (l : List ℕ). record { firsts = old.firsts; bytes = old.bytes; depths = old.depths; fails = new.fails; rows = l; row_count = old.row_count; places = new.places; lists = new.lists; ignore_case = old.ignore_case }) (sym same.rows)
    ∙ ap (λ (n : ℕ). record { firsts = old.firsts; bytes = old.bytes; depths = old.depths; fails = new.fails; rows = new.rows; row_count = n; places = new.places; lists = new.lists; ignore_case = old.ignore_case }) (sym same.row_count)
    ∙ with_trie-same old new same.trie

-- the trie is read from its own parts
children-kept : (old new : StateTables) → HasChildren old → HasChildren (with_trie old new)
children-kept old new is = record {
  ordered = is.ordered;
  within = is.within;
  rising = is.rising;
  state = is.state;
  deeper = is.deeper;
  dead_none = is.dead_none;
  shallow = is.shallow;
  dead_depth = is.dead_depth;
  root_depth = is.root_depth;
}

levels-kept : (p : Patterns) (names : List (Option (List ℕ))) (old new : StateTables) → AreLevels p names old → AreLevels p names (with_trie old new)
levels-kept p names old new is = record {
  sized = is.sized;
  dead = is.dead;
  root = is.root;
  complete = is.complete;
  ordered = is.ordered;
  nodes = is.nodes;
  depths = is.depths;
  children = is.children;
  folded = is.folded;
}

in_levels-kept : (old new : StateTables) → AreInLevels old → AreInLevels (with_trie old new)
in_levels-kept old new is = record { begins = is.begins; ends = is.ends; deeper = is.deeper; folded = is.folded; bytes = is.bytes }

module _ (old new : StateTables) (same : HasSameTrie old new) where
  pub children-same : HasChildren old → HasChildren new
  children-same is = subst HasChildren (with_trie-same old new same) (children-kept old new is)

  pub levels-same : (p : Patterns) (names : List (Option (List ℕ))) → AreLevels p names old → AreLevels p names new
  levels-same p names is = subst (λ (t : StateTables). AreLevels p names t) (with_trie-same old new same) (levels-kept p names old new is)

  pub in_levels-same : AreInLevels old → AreInLevels new
  in_levels-same is = subst AreInLevels (with_trie-same old new same) (in_levels-kept old new is)

  pub of_trie-same : (p : Patterns) (names : List (Option (List ℕ))) (owns : List Own) → AreOfTrie p names owns old → AreOfTrie p names owns new
  of_trie-same p names owns is = record { case_is = same.case_rule ∙ is.case_is; levels = levels-same p names is.levels; owns = is.owns }

  pub folded-same : (sid : ℕ) → AreFolded old.ignore_case (child_bytes old sid) → AreFolded new.ignore_case (child_bytes new sid)
  folded-same sid is = subst (λ (t : StateTables). AreFolded t.ignore_case (child_bytes t sid)) (with_trie-same old new same) is

-- the other way round
pub trie-back : (old new : StateTables) → HasSameTrie old new → HasSameTrie new old
trie-back old new same = record { firsts = sym same.firsts; bytes = sym same.bytes; depths = sym same.depths; case_rule = sym same.case_rule }

pub links-back : (old new : StateTables) → HasSameLinks old new → HasSameLinks new old
links-back old new same = record { trie = trie-back old new same.trie; fails = sym same.fails; rows = sym same.rows; row_count = sym same.row_count }

-- links and rows are read from the trie and theirs
sized-kept : (old new : StateTables) → IsSizedTables old → IsSizedTables (with_links old new)
sized-kept old new is = record {
  two = is.two;
  small = is.small;
  firsts = is.firsts;
  depths = is.depths;
  rows = is.rows;
  with_rows = is.with_rows;
  linked = is.linked;
  some_links = is.some_links;
}

walkable-kept : (old new : StateTables) → IsWalkable old → IsWalkable (with_links old new)
walkable-kept old new is = record {
  entry = is.entry;
  entry_near = is.entry_near;
  dead_stays = is.dead_stays;
  link = is.link;
  lower = is.lower;
  link_nearer = is.link_nearer;
}

linked-kept : (p : Patterns) (names : List (Option (List ℕ))) (old new : StateTables) → AreLinked p names old → AreLinked p names (with_links old new)
linked-kept p names old new is = record { links = is.links; rows = is.rows }

module _ (old new : StateTables) (same : HasSameLinks old new) where
  pub can-same : CanStepThrough old → CanStepThrough new
  can-same is = record {
    sized = subst IsSizedTables (with_links-same old new same) (sized-kept old new is.sized);
    children = children-same old new same.trie is.children;
    walkable = subst IsWalkable (with_links-same old new same) (walkable-kept old new is.walkable);
  }

  pub leads-same : (p : Patterns) (names : List (Option (List ℕ))) → LeadsAsWords p old names → LeadsAsWords p new names
  leads-same p names is = record {
    case_is = same.trie.case_rule ∙ is.case_is;
    levels = levels-same old new same.trie p names is.levels;
    linked = subst (λ (t : StateTables). AreLinked p names t) (with_links-same old new same) (linked-kept p names old new is.linked);
  }
