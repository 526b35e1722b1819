-- The word of a state, by how it is reached.
use Rattle.std.proofs.Common.{◌≡◌, ◌≢◌, ◌⊎◌, inl, inr, ℕ, zero, suc, ◌+◌, ◌<◌, true, ◌&&◌, List, [], ◌∷◌, ◌++◌, length, get_or, refl, sym, ◌∙◌, ap, subst, arith}
use Rattle.std.specs.Prelude.{IfSome, Option, Some, None, nat_le, if◌then◌else◌}
use Rattle.std.specs.List.{All}
use Rattle.std.proofs.Math.ListN.{get_or-append}
use Rattle.std.proofs.Math.Seq.{get_or-append_seam}
use Rattle.std.proofs.lemmas.Bool.{cases_Bool, and_parts, cases_eq, cond-true, cond-false}
use Rattle.std.proofs.lemmas.Bool.Decides.{nat_tests}
use Rattle.std.proofs.lemmas.List.{append_assoc, length-append}
use Rattle.std.proofs.lemmas.List.Elements.{All-map}
use Rattle.aho_core.specs.Bytes.{folded, folded_word}
use Rattle.aho_core.specs.Patterns.{Patterns, pattern_at}
use Rattle.aho_core.specs.Trie.{is_node, pattern_word}
use Rattle.aho_laws.proofs.Kept.{is_node-front, is_node-true}
use Rattle.aho_core.specs.Failure.{is_cut}
use Rattle.aho_table.specs.Table.{State, IsRising, dead_id, fail_id, state_at, transition_at, next_in, depth_in}
use Rattle.aho_table.proofs.TransitionLists.{transition_at-same, transition_at-other}
use Rattle.aho_build.specs.Automaton.{IsAutomaton, ListsExactly, missing_from}
use Rattle.aho_build.specs.declared.special.Special.{Special}
use Rattle.aho_build.specs.StateNames.{name_at}
use Rattle.aho_build.specs.Trie.{longer}
use Rattle.aho_build.proofs.LinkedNodes.{named-below, named-ne_fail, node_next, other_next}
use Rattle.aho_build.proofs.OneWordMore.{folded-small}
use Rattle.aho_corasick.proofs.ReadOut.{word-anchored, word-other}
use Rattle.aho_corasick.specs.ReadOut.{states_of, word_in}
use Rattle.aho_corasick.specs.declared.noncontiguous.NFA.{NFA}
use Rattle.acdraw.specs.Words.{AreBytes, IsAheadOf, IsLastTo, IsReachedBy, IsUnreached, IsWordOf, Leads}
use Rattle.acdraw.specs.declared.picture.words.Reached.{Reached}

-- ---- lists of transitions

-- where no transition leads to a state, no byte does
none_to : (transitions : List (ℕ × ℕ)) (next byte : ℕ) → next ≢ fail_id → IsLastTo next transitions None → transition_at transitions byte ≢ next
none_to [] next byte ne none e = ne (sym e)
none_to (transition ∷ transitions) next byte ne none e =
    elim (cases_eq transition.0 byte) [
      | inl same ↦ none zero transition (omega arith) (sym (transition_at-same transition transitions byte same) ∙ e)
      | inr other ↦ none_to transitions next byte ne (λ k d lt. none (suc k) d (omega arith)) (sym (transition_at-other transition transitions byte other) ∙ e)
    ]

-- the last byte that leads to a state leads to it, and none above it does
last_leads : (front back transitions : List (ℕ × ℕ)) (next byte : ℕ) → transitions ≡ front ++ (byte, next) ∷ back → IsRising transitions → transition_at transitions byte ≡ next
last_leads front back transitions next byte is rising = ap (λ (l : List (ℕ × ℕ)). transition_at l byte) is ∙ along front (subst IsRising is rising)
  where
    along : (front : List (ℕ × ℕ)) → IsRising (front ++ (byte, next) ∷ back) → transition_at (front ++ (byte, next) ∷ back) byte ≡ next
    along [] rising = transition_at-same (byte, next) back byte refl
    along (first ∷ front) rising =
        let less : first.0 < byte = omega (arith, rising.0 (length front) first (omega (arith, length-append front ((byte, next) ∷ back))), ap (λ (t : ℕ × ℕ). t.0) (get_or-append_seam front (byte, next) back first)) in
        transition_at-other first (front ++ (byte, next) ∷ back) byte (λ e. omega arith) ∙ along front rising.1

above_last : (front back transitions : List (ℕ × ℕ)) (next byte other : ℕ) → transitions ≡ front ++ (byte, next) ∷ back → IsRising transitions → next ≢ fail_id
    → All (λ transition. transition.1 ≢ next) back → byte < other → transition_at transitions other ≢ next
above_last front back transitions next byte other is rising ne apart above e = along front (subst IsRising is rising) (sym (ap (λ (l : List (ℕ × ℕ)). transition_at l other) is) ∙ e)
  where
    along : (front : List (ℕ × ℕ)) → IsRising (front ++ (byte, next) ∷ back) → transition_at (front ++ (byte, next) ∷ back) other ≢ next
    along [] rising e = none_to back next other ne apart (sym (transition_at-other (byte, next) back other (λ e. omega arith)) ∙ e)
    along (first ∷ front) rising e =
        let less : first.0 < byte = omega (arith, rising.0 (length front) first (omega (arith, length-append front ((byte, next) ∷ back))), ap (λ (t : ℕ × ℕ). t.0) (get_or-append_seam front (byte, next) back first)) in
        along front rising.1 (sym (transition_at-other first (front ++ (byte, next) ∷ back) other (λ e. omega arith)) ∙ e)

-- ---- bytes

-- a byte stays as it is, or is raised to one that stays
abbrev IsRaised : Patterns → ℕ → Type 0
IsRaised p byte = (byte < 91) × (folded p byte ≡ byte + 32) × (folded p (byte + 32) ≡ byte + 32)

raised : (p : Patterns) (byte : ℕ) → p.ignore_case ≡ true → nat_le 65 byte ≡ true → nat_le byte 90 ≡ true → IsRaised p byte
raised p byte rule above below = grind (arith, nat_tests)

folded-cases : (p : Patterns) (byte : ℕ) → (folded p byte ≡ byte) ⊎ IsRaised p byte
folded-cases p byte =
    elim (cases_Bool (p.ignore_case && (nat_le 65 byte && nat_le byte 90))) [
      | inl upper ↦
          (let rule = and_parts p.ignore_case (nat_le 65 byte && nat_le byte 90) upper in
          let range = and_parts (nat_le 65 byte) (nat_le byte 90) rule.1 in
          inr (raised p byte rule.0 range.0 range.1))
      | inr other ↦ inl (cond-false {A = ℕ} (p.ignore_case && (nat_le 65 byte && nat_le byte 90)) (byte + 32) byte other)
    ]

All-front : (P : ℕ → Type 0) (xs ys : List ℕ) → All P (xs ++ ys) → All P xs
All-front P xs ys all k d lt = subst P (get_or-append xs ys d k lt) (all k d (omega (arith, length-append xs ys)))

-- and so are those of a folded pattern
pattern-small : (p : Patterns) → AreBytes p → (number : ℕ) → All (λ byte. byte < 256) (pattern_word p number)
unfolding pattern_word
pattern-small p bytes number = All-map (λ byte. byte < 256) (folded p) (pattern_at p number) (λ k d lt. folded-small p (get_or (pattern_at p number) k d) (bytes number k d lt))

-- ---- the states of an automaton

module _ (special : Special) (p : Patterns) (names : List (Option (List ℕ))) (states : List State) (a : IsAutomaton special p names states) (l : ListsExactly special states) where
  abbrev root : ℕ
  root = special.start_unanchored_id

  abbrev anchored : ℕ
  anchored = special.start_anchored_id

  -- a state that is not DEAD and not FAIL stands for a word
  pub some_word : (sid : ℕ) → sid < length states → sid ≢ dead_id → sid ≢ fail_id → (word : List ℕ) × (word_in special names sid ≡ Some word)
  some_word sid below alive kept =
      elim (cases_eq sid anchored) [
        | inl start ↦ ([], ap (word_in special names) start ∙ word-anchored special names)
        | inr apart ↦ (let word = a.complete sid below alive kept apart in (word.0, word-other special names sid apart ∙ word.1))
      ]

  -- DEAD, FAIL and the starts are at depth 0
  deep-ne_anchored : (sid : ℕ) → 0 < depth_in states sid → sid ≢ anchored
  deep-ne_anchored sid deep e = omega (arith, ap (depth_in states) e, a.anchored.depth)

  deep-ne_dead : (sid : ℕ) → 0 < depth_in states sid → sid ≢ dead_id
  deep-ne_dead sid deep e = omega (arith, ap (depth_in states) e, a.dead.depth)

  deep-ne_fail : (sid : ℕ) → 0 < depth_in states sid → sid ≢ fail_id
  deep-ne_fail sid deep e = omega (arith, ap (depth_in states) e, ap (λ (s : State). s.depth) l.fail)

  deep-ne_root : (sid : ℕ) → 0 < depth_in states sid → sid ≢ root
  deep-ne_root sid deep e = omega (arith, ap (depth_in states) e, a.nodes.depths root [] a.nodes.root)

  -- a byte that leads to a state which is no start leads to the longer word
  module _ (from sid byte : ℕ) (small : byte < 256) (nearer : depth_in states from < depth_in states sid) (rising : IsRising (state_at states from).transitions)
      (front back : List (ℕ × ℕ)) (stands : (state_at states from).transitions ≡ front ++ (byte, sid) ∷ back) (none : All (λ transition. transition.1 ≢ sid) back) where
    abbrev Result : List ℕ → Type 0
    Result word = (u : List ℕ) × (word_in special names from ≡ Some u) × (word ≡ u ++ byte ∷ [])

    deep : 0 < depth_in states sid
    deep = omega arith

    leads_to : next_in states from byte ≡ sid
    leads_to = last_leads front back (state_at states from).transitions sid byte stands rising

    above : (other : ℕ) → byte < other → next_in states from other ≢ sid
    above other more = above_last front back (state_at states from).transitions sid byte other stands rising (deep-ne_fail sid deep) none more

    -- where the longer words that are nodes have their states
    module _ (u word : List ℕ) (is : word_in special names from ≡ Some u) (named : name_at names sid ≡ Some word)
        (to_node : (other : ℕ) → other < 256 → is_node p (longer p u other) ≡ true → name_at names (next_in states from other) ≡ Some (longer p u other)) where
      at_byte : is_node p (longer p u byte) ≡ true → word ≡ longer p u byte
      at_byte node = let both : Some word ≡ Some (longer p u byte) = sym named ∙ ap (name_at names) (sym leads_to) ∙ to_node byte small node in cc

      -- it is not raised: the raised byte would lead there as well
      not_raised : is_node p (longer p u byte) ≡ true → IsRaised p byte → folded p byte ≡ byte
      not_raised node up =
          let same : longer p u byte ≡ longer p u (byte + 32) = ap (λ (b : ℕ). u ++ b ∷ []) (up.1 ∙ sym up.2) in
          let other_small : byte + 32 < 256 = omega arith in
          let next = to_node (byte + 32) other_small (sym (ap (is_node p) same) ∙ node) in
          let is_sid : next_in states from (byte + 32) ≡ sid = a.nodes.unique (next_in states from (byte + 32)) sid word (next ∙ ap Some (sym same ∙ sym (at_byte node))) named in
          absurd (above (byte + 32) (omega arith) is_sid)

      of_node : is_node p (longer p u byte) ≡ true → Result word
      of_node node =
          let stays : folded p byte ≡ byte = elim (folded-cases p byte) [ inl same ↦ same | inr up ↦ not_raised node up ] in
          (u, is, at_byte node ∙ ap (λ (b : ℕ). u ++ b ∷ []) stays)

    of_root : word_in special names from ≡ Some [] → (word : List ℕ) → name_at names sid ≡ Some word → from ≡ anchored → Result word
    of_root is word named start =
        let next : (other : ℕ) → other < 256 → next_in states from other ≡ (if is_node p (folded p other ∷ []) then next_in states root other else fail_id) =
        λ other lt. ap (λ (n : ℕ). next_in states n other) start ∙ a.anchored.next other lt in
        elim (cases_Bool (is_node p (longer p [] byte))) [
          | inl node ↦
              of_node [] word is named
              (λ other lt yes.
              ap (name_at names) (next other lt ∙ cond-true {A = ℕ} (is_node p (folded p other ∷ [])) (next_in states root other) fail_id yes)
              ∙ node_next root p names states a.nodes root [] other lt a.nodes.root yes)
              node
          | inr other ↦ absurd (deep-ne_fail sid deep (sym leads_to ∙ next byte small ∙ cond-false {A = ℕ} (is_node p (folded p byte ∷ [])) (next_in states root byte) fail_id other))
        ]

    missing : (u : List ℕ) → sid ≢ missing_from root p u
    missing [] e =
        elim (cases_Bool (is_cut p [])) [
          | inl cut ↦ deep-ne_dead sid deep (e ∙ cond-true {A = ℕ} (is_cut p []) dead_id root cut)
          | inr live ↦ deep-ne_root sid deep (e ∙ cond-false {A = ℕ} (is_cut p []) dead_id root live)
        ]
    missing (x ∷ u) e = deep-ne_fail sid deep e

    of_named : (u : List ℕ) → name_at names from ≡ Some u → from ≢ anchored → (word : List ℕ) → name_at names sid ≡ Some word → Result word
    of_named u from_named apart word named =
        elim (cases_Bool (is_node p (longer p u byte))) [
          | inl node ↦
              of_node u word (word-other special names from apart ∙ from_named) named (λ other lt yes. node_next root p names states a.nodes from u other lt from_named yes) node
          | inr other ↦ absurd (missing u (sym leads_to ∙ other_next root p names states a.nodes from u byte small from_named other))
        ]

    pub one_back : (word : List ℕ) → from < length states → word_in special names sid ≡ Some word → Result word
    one_back word below is =
        let named : name_at names sid ≡ Some word = sym (word-other special names sid (deep-ne_anchored sid deep)) ∙ is in
        elim (cases_eq from anchored) [
          | inl start ↦ of_root (ap (word_in special names) start ∙ word-anchored special names) word named start
          | inr apart ↦
              elim (cases_eq from dead_id) [
                | inl dead ↦ absurd (deep-ne_dead sid deep (sym leads_to ∙ ap (λ (n : ℕ). next_in states n byte) dead ∙ a.nodes.dead_loop byte small))
                | inr alive ↦
                    elim (cases_eq from fail_id) [
                      | inl fail ↦ absurd (deep-ne_fail sid deep (sym leads_to ∙ ap (λ (n : ℕ). next_in states n byte) fail ∙ ap (λ (s : State). transition_at s.transitions byte) l.fail))
                      | inr kept ↦ (let u = a.complete from below alive kept apart in of_named u.0 u.1 apart word named)
                    ]
              ]
        ]

  -- a word that goes on from that of another state is reached by its last byte
  abbrev IsReached : ℕ → Type 0
  IsReached sid = (from : ℕ) × (byte : ℕ) × (from < length states) × (depth_in states from < depth_in states sid) × (next_in states from byte ≡ sid)

  -- its first byte leads on
  module _ (i : ℕ) (v : List ℕ) (x : ℕ) (r : List ℕ) (named : name_at names i ≡ Some v) (node : is_node p (v ++ x ∷ r) ≡ true) (folds : folded_word p (x ∷ r) ≡ x ∷ r)
      (small : All (λ byte. byte < 256) (x ∷ r)) where
    whole : (v ++ x ∷ []) ++ r ≡ v ++ x ∷ r
    whole = append_assoc v (x ∷ []) r

    first_edge : name_at names (next_in states i x) ≡ Some (v ++ x ∷ [])
    first_edge =
        let stays : folded p x ≡ x = cc in
        let front : is_node p (v ++ x ∷ []) ≡ true = is_node-front p (v ++ x ∷ []) r (ap (is_node p) whole ∙ node) in
        let same : longer p v x ≡ v ++ x ∷ [] = ap (λ (b : ℕ). v ++ b ∷ []) stays in
        node_next root p names states a.nodes i v x (small zero x (omega arith)) named (ap (is_node p) same ∙ front) ∙ ap Some same

    folds_on : folded_word p r ≡ r
    folds_on = cc

    small_on : All (λ byte. byte < 256) r
    small_on k d lt = small (suc k) d (omega arith)

  last_edge : (sid i : ℕ) (v : List ℕ) (x : ℕ) (r : List ℕ) → name_at names i ≡ Some v → is_node p (v ++ x ∷ r) ≡ true → folded_word p (x ∷ r) ≡ x ∷ r → All (λ byte. byte < 256) (x ∷ r)
      → name_at names sid ≡ Some (v ++ x ∷ r) → IsReached sid
  last_edge sid i v x [] named node folds small target =
      let next = first_edge i v x [] named node folds small in
      let near : depth_in states i < depth_in states sid = omega (arith, a.nodes.depths i v named, a.nodes.depths sid (v ++ x ∷ []) target, length-append v (x ∷ [])) in
      (i, x, named-below root p names states a.nodes i v named, near, a.nodes.unique (next_in states i x) sid (v ++ x ∷ []) next target)
  last_edge sid i v x (y ∷ s) named node folds small target =
      let joined : (v ++ x ∷ []) ++ y ∷ s ≡ v ++ x ∷ y ∷ s = whole i v x (y ∷ s) named node folds small in
      last_edge sid (next_in states i x) (v ++ x ∷ []) y s
      (first_edge i v x (y ∷ s) named node folds small)
      (ap (is_node p) joined ∙ node)
      (folds_on i v x (y ∷ s) named node folds small)
      (small_on i v x (y ∷ s) named node folds small)
      (target ∙ ap Some (sym joined))

  -- the bytes of a node are bytes
  node-small : AreBytes p → (w : List ℕ) → is_node p w ≡ true → All (λ byte. byte < 256) w
  node-small bytes [] node = λ k d lt. absurd (omega arith)
  node-small bytes (x ∷ w) node =
      let pattern = is_node-true p x w node in
      All-front (λ byte. byte < 256) (x ∷ w) pattern.3.0 (subst (All (λ byte. byte < 256)) (sym pattern.3.1) (pattern-small p bytes pattern.0))

  -- a state that no byte leads to from one that is nearer to the start stands for the empty word
  pub unreached-word : AreBytes p → (sid : ℕ) (word : List ℕ) → IsUnreached states sid → word_in special names sid ≡ Some word → word ≡ []
  unreached-word bytes sid [] unreached is = refl
  unreached-word bytes sid (x ∷ r) unreached is =
      let apart : sid ≢ anchored = λ start. (let both : Some (x ∷ r) ≡ Some [] = sym is ∙ ap (word_in special names) start ∙ word-anchored special names in cc) in
      let named : name_at names sid ≡ Some (x ∷ r) = sym (word-other special names sid apart) ∙ is in
      let of = a.nodes.words sid (x ∷ r) named in
      let reached = last_edge sid root [] x r a.nodes.root of.0 of.1 (node-small bytes (x ∷ r) of.0) named in
      absurd (none_to (state_at states reached.0).transitions sid reached.1 (named-ne_fail root p names states a.nodes sid (x ∷ r) named) (unreached reached.0 reached.2 reached.3) reached.4)

-- ---- the walk back

-- and goes back by one byte
pub ahead_more : (nfa : NFA) (sid at : ℕ) (reached : Reached) (behind : List ℕ) → IsReachedBy (states_of nfa) at reached → IsAheadOf nfa sid at behind
    → IsAheadOf nfa sid reached.from (reached.byte ∷ behind)
ahead_more nfa sid at reached behind led ahead p names word naming e =
    let so_far = ahead p names word naming e in
    let last = led.last in
    let back = one_back nfa.special p names (states_of nfa) naming.1 naming.0.listed reached.from at reached.byte led.small led.nearer led.rising last.0 last.1 last.2 last.3 so_far.0 led.within so_far.1 in
    (back.0, back.1, so_far.2 ∙ ap (λ (l : List ℕ). l ++ behind) back.2 ∙ append_assoc back.0 (reached.byte ∷ []) behind)

-- until no state leads on
pub ahead_all : (nfa : NFA) (sid at : ℕ) (behind : List ℕ) → sid < length (states_of nfa) → IsUnreached (states_of nfa) at → IsAheadOf nfa sid at behind → IsWordOf nfa sid behind
ahead_all nfa sid at behind below unreached ahead p names bytes naming alive kept =
    let word = some_word nfa.special p names (states_of nfa) naming.1 naming.0.listed sid below alive kept in
    let found = ahead p names word.0 naming word.1 in
    let empty = unreached-word nfa.special p names (states_of nfa) naming.1 naming.0.listed bytes at found.0 unreached found.1 in
    word.1 ∙ ap Some (found.2 ∙ ap (λ (l : List ℕ). l ++ behind) empty)

-- ---- how a state leads to another

-- the last byte of a state's transitions that leads to one which is further from the start
pub leads_by : (states : List State) (from sid : ℕ) (transitions : List (ℕ × ℕ)) (byte : Option ℕ) → from < length states → depth_in states from < depth_in states sid
    → transitions ≡ (state_at states from).transitions → IsRising transitions → IfSome byte (λ b. b < 256) → IsLastTo sid transitions byte → Leads states from sid byte
leads_by states from sid transitions None within nearer is rising small last = λ _. subst (λ (l : List (ℕ × ℕ)). IsLastTo sid l None) is last
leads_by states from sid transitions (Some b) within nearer is rising small last = record {
  within = within;
  small = small;
  nearer = nearer;
  rising = subst IsRising is rising;
  last = subst (λ (l : List (ℕ × ℕ)). IsLastTo sid l (Some b)) is last;
}

-- no state up to one leads to it, if none before that one does, nor that one
pub none_up_to : (states : List State) (sid index : ℕ) → ((from : ℕ) → from < index → Leads states from sid None) → Leads states index sid None
    → (from : ℕ) → from < index + 1 → Leads states from sid None
none_up_to states sid index before here from below =
    elim (cases_eq from index) [
      | inl same ↦ subst (λ (n : ℕ). Leads states n sid None) (sym same) here
      | inr other ↦ before from (omega (arith, below, other))
    ]
