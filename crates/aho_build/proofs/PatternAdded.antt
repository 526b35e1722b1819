-- A pattern is added whole, or is left out.
use Rattle.std.proofs.Common.{◌≡◌, ◌≢◌, ℕ, ◌+◌, ◌<◌, Bool, true, false, ◌&&◌, ◌||◌, List, [], ◌∷◌, ◌++◌, length, Option, Some, None, MatchBool, refl, sym, ap, subst, ◌∙◌, inl, inr, arith}
use Rattle.std.proofs.lemmas.Bool.{cases_Bool, cases_eq}
use Rattle.std.proofs.lemmas.List.{length-set}
use Rattle.aho_core.specs.Among.{is_node_among, own_among}
use Rattle.aho_core.specs.Patterns.{Patterns}
use Rattle.aho_core.specs.Trie.{begins, is_kept, is_word, pattern_word}
use Rattle.aho_laws.proofs.Begins.{is_word-true, is_word-from}
use Rattle.aho_table.specs.Table.{State, state_at, next_in, fail_in, depth_in, matches_in, transition_at, push_match}
use Rattle.aho_build.specs.StateNames.{name_at}
use Rattle.aho_build.specs.Trie.{longer, missing_at, AreFirst, IsTrie, IsTrieWith, IsTrieOf}
use Rattle.aho_table.proofs.States.{state_at-set_same, state_at-set_other, part-set}
use Rattle.aho_build.proofs.NamesOfTries.{name_at-below}
use Rattle.aho_build.proofs.OneWordMore.{or_false}
use Rattle.aho_build.proofs.BytesAdded.{IsTrie-same, words_with}
use Rattle.aho_build.proofs.Nodes.{is_node_among-kept, is_node_among-left_out, is_node_among-front, own_among-same, own_among-other}

-- what a states answers is that of the states
IsTrie-states : (p : Patterns) (f : List ℕ → Bool) (at_root : ℕ) (names : List (Option (List ℕ))) (old new : List State)
    → length new ≡ length old → ((i byte : ℕ) → next_in new i byte ≡ next_in old i byte) → ((i : ℕ) → depth_in new i ≡ depth_in old i)
    → IsTrie p f at_root names old → IsTrie p f at_root names new
IsTrie-states p f at_root names old new size transitions depths trie = record {
  sized = trie.sized ∙ sym size;
  dead = trie.dead;
  fail = trie.fail;
  anchored = trie.anchored;
  complete = λ i late below. trie.complete i late (omega (arith, below, size));
  dead_loop = λ byte tiny. transitions 0 byte ∙ trie.dead_loop byte tiny;
  root = trie.root;
  unique = trie.unique;
  words = trie.words;
  closed = trie.closed;
  depths = λ i word e. depths i ∙ trie.depths i word e;
  transitions = λ i word byte e small.
      subst (λ (n : ℕ). MatchBool (f (longer p word byte)) (name_at names n ≡ Some (longer p word byte)) (n ≡ missing_at at_root word))
      (sym (transitions i byte)) (trie.transitions i word byte e small);
  reached = λ i word byte e. let from = trie.reached i word byte e in (from.0, from.1, from.2, from.3, transitions from.0 byte ∙ from.4);
}

and_false : (b c : Bool) → c ≡ false → (b && c) ≡ false
and_false true c e = e
and_false false c e = refl

some_is : (u v : List ℕ) → Some u ≡ Some v → u ≡ v
some_is u v e = cc

AreFirst-states : (names : List (Option (List ℕ))) (old new : List State) → ((i byte : ℕ) → next_in new i byte ≡ next_in old i byte) → ((i : ℕ) → depth_in new i ≡ depth_in old i)
    → ((i : ℕ) → fail_in new i ≡ fail_in old i) → matches_in new 0 ≡ matches_in old 0 → matches_in new 1 ≡ matches_in old 1 → matches_in new 3 ≡ matches_in old 3 → AreFirst names old → AreFirst names new
AreFirst-states names old new transitions depths fails dead fail anchored first = record {
  dead_fail = fails 0 ∙ first.dead_fail;
  dead_matches = dead ∙ first.dead_matches;
  dead_depth = depths 0 ∙ first.dead_depth;
  fail_fail = fails 1 ∙ first.fail_fail;
  fail_matches = fail ∙ first.fail_matches;
  fail_depth = depths 1 ∙ first.fail_depth;
  anchored_fail = fails 3 ∙ first.anchored_fail;
  anchored_matches = anchored ∙ first.anchored_matches;
  anchored_depth = depths 3 ∙ first.anchored_depth;
  anchored_next = λ byte tiny. transitions 3 byte ∙ first.anchored_next byte tiny;
  unlinked = λ i word e. fails i ∙ first.unlinked i word e;
}

module _ (p : Patterns) (number : ℕ) where
  -- the pattern's last state lists the pattern
  pub IsTrieWith-end : (sid : ℕ) (names : List (Option (List ℕ))) (states new : List State) → is_kept p number ≡ true → IsTrieWith p number (pattern_word p number) names states
      → name_at names sid ≡ Some (pattern_word p number) → new ≡ push_match states sid number → IsTrieOf p (number + 1) names new
  IsTrieWith-end sid names states new kept with_all at new_is =
      let pattern : List ℕ = pattern_word p number in
      let trie = with_all.trie in
      let below : sid < length states = omega (arith, name_at-below names sid pattern at, trie.sized) in
      let state : State = record (state_at states sid) { matches = (state_at states sid).matches ++ number ∷ [] } in
      let pushed : List State = push_match states sid number in
      let transitions = λ (i byte : ℕ). part-set (λ (r : State). transition_at r.transitions byte) states sid state below refl i in
      let depths = part-set (λ (r : State). r.depth) states sid state below refl in
      let fails = part-set (λ (r : State). r.fail) states sid state below refl in
      let apart : (i : ℕ) → name_at names i ≡ None → i ≢ sid = λ i none e. let clash : Some pattern ≡ None = sym at ∙ ap (name_at names) (sym e) ∙ none in cc in
      subst (λ (t : List State). IsTrieOf p (number + 1) names t) (sym new_is)
      (record {
        trie = IsTrie-states p (is_node_among p (number + 1)) 1 names states pushed (length-set states sid state) transitions depths
            (IsTrie-same p (words_with p number pattern) (is_node_among p (number + 1)) 1 names states (λ word plain. is_node_among-kept p number word kept) trie);
        lists = λ i word e.
            elim (cases_eq i sid) [
              | inl here ↦
                  (let same : word ≡ pattern = some_is word pattern (sym e ∙ ap (name_at names) here ∙ at) in
                  ap (matches_in pushed) here ∙ ap (λ (r : State). r.matches) (state_at-set_same states sid state below)
                  ∙ ap (λ (l : List ℕ). l ++ number ∷ []) (with_all.lists sid pattern at ∙ ap (own_among p number) (sym same))
                  ∙ sym (own_among-same p number word kept (is_word-from pattern word (sym same))))
              | inr there ↦
                  (let other : (is_kept p number && is_word pattern word) ≡ false =
                  elim (cases_Bool (is_word pattern word)) [
                    | inl same ↦ absurd (there (trie.unique i sid pattern (e ∙ ap (λ (l : List ℕ). Some l) (sym (is_word-true pattern word same))) at))
                    | inr differ ↦ and_false (is_kept p number) (is_word pattern word) differ
                  ] in
                  ap (λ (r : State). r.matches) (state_at-set_other states sid i state there) ∙ with_all.lists i word e ∙ sym (own_among-other p number word other))
            ];
        first = AreFirst-states names states pushed transitions depths fails
            (ap (λ (r : State). r.matches) (state_at-set_other states sid 0 state (apart 0 trie.dead)))
            (ap (λ (r : State). r.matches) (state_at-set_other states sid 1 state (apart 1 trie.fail)))
            (ap (λ (r : State). r.matches) (state_at-set_other states sid 3 state (apart 3 trie.anchored))) with_all.first;
      })

  -- a pattern that is left out changes nothing
  pub IsTrieOf-left_out : (names : List (Option (List ℕ))) (states : List State) → is_kept p number ≡ false → IsTrieOf p number names states → IsTrieOf p (number + 1) names states
  IsTrieOf-left_out names states left of = record {
    trie = IsTrie-same p (is_node_among p number) (is_node_among p (number + 1)) 1 names states (λ word plain. is_node_among-left_out p number word left) of.trie;
    lists = λ i word e. of.lists i word e ∙ sym (own_among-other p number word (ap (λ (b : Bool). b && is_word (pattern_word p number) word) left));
    first = of.first;
  }

  -- where the walk has passed nodes alone, nothing was added
  pub IsTrieWith-back : (more : List ℕ) (names : List (Option (List ℕ))) (states : List State) → is_node_among p number more ≡ true → IsTrieWith p number more names states → IsTrieOf p number names states
  IsTrieWith-back more names states node with_more = record {
    trie = IsTrie-same p (words_with p number more) (is_node_among p number) 1 names states (λ word plain. same word) with_more.trie;
    lists = with_more.lists;
    first = with_more.first;
  }
    where
      same : (word : List ℕ) → (is_node_among p number word || begins word more) ≡ is_node_among p number word
      same word =
          elim (cases_Bool (begins word more)) [
            | inl front ↦ (let there = is_node_among-front p number word more node front in ap (λ (b : Bool). b || begins word more) there ∙ sym there)
            | inr other ↦ or_false (is_node_among p number word) (begins word more) other
          ]
