-- The states of an automaton, by the words that they stand for.
use Rattle.std.proofs.Common.{◌≡◌, ◌≢◌, ◌⊎◌, inl, inr, ℕ, ◌<◌, Bool, true, false, ◌||◌, List, [], ◌∷◌, length, refl, sym, ◌∙◌, ap, subst, arith}
use Rattle.std.specs.Prelude.{Option, Some, None, nat_eq}
use Rattle.std.proofs.lemmas.Bool.{cases_Bool, cases_eq, cond-true, cond-false, eq-eqb, ne_eqb}
use Rattle.aho_core.specs.Bytes.{folded}
use Rattle.aho_core.specs.MatchList.{matches_of}
use Rattle.aho_core.specs.Patterns.{Patterns}
use Rattle.aho_core.specs.Step.{depth_of}
use Rattle.aho_core.specs.Trie.{is_node}
use Rattle.aho_laws.proofs.ByLinks.{matches-root}
use Rattle.aho_table.specs.Table.{State, dead_id, fail_id, state_at, lists_byte, lists_transition, transition_at, next_in, fail_in, depth_in, matches_in}
use Rattle.aho_build.specs.Automaton.{IsAutomaton, ListsExactly, missing_from}
use Rattle.aho_build.specs.declared.special.Special.{Special}
use Rattle.aho_build.specs.StateNames.{name_at, IsStateOf}
use Rattle.aho_build.specs.Trie.{longer}
use Rattle.aho_build.proofs.LinkedNodes.{named-ne_fail, node_next, other_next, root_next-ne}
use Rattle.aho_corasick.specs.ReadOut.{AreOfWord, entry_at, link_of, other_entry, word_in}

-- a byte that leads to a state is listed
listed-leads : (transitions : List (ℕ × ℕ)) (byte : ℕ) → transition_at transitions byte ≢ fail_id → lists_transition transitions byte ≡ true
listed-leads [] byte ne = absurd (ne refl)
listed-leads (transition ∷ transitions) byte ne =
    elim (cases_Bool (nat_eq transition.0 byte)) [
      | inl same ↦ ap (λ (b : Bool). b || lists_transition transitions byte) same
      | inr other ↦
          ap (λ (b : Bool). b || lists_transition transitions byte) other
          ∙ listed-leads transitions byte (λ e. ne (cond-false {A = ℕ} (nat_eq transition.0 byte) transition.1 (transition_at transitions byte) other ∙ e))
    ]

entry-listed : (transitions : List (ℕ × ℕ)) (byte : ℕ) → lists_transition transitions byte ≡ true → entry_at transitions byte ≡ Some (transition_at transitions byte)
entry-listed transitions byte listed = cond-true {A = Option ℕ} (lists_transition transitions byte) (Some (transition_at transitions byte)) None listed

entry-leads : (transitions : List (ℕ × ℕ)) (byte : ℕ) → transition_at transitions byte ≢ fail_id → entry_at transitions byte ≡ Some (transition_at transitions byte)
entry-leads transitions byte ne = entry-listed transitions byte (listed-leads transitions byte ne)

-- the anchored start stands for no byte, and every other state for its name
pub word-anchored : (special : Special) (names : List (Option (List ℕ))) → word_in special names special.start_anchored_id ≡ Some []
word-anchored special names =
    let start = special.start_anchored_id in
    cond-true {A = Option (List ℕ)} (nat_eq start start) (Some []) (name_at names start) (eq-eqb start start refl)

pub word-other : (special : Special) (names : List (Option (List ℕ))) (sid : ℕ) → sid ≢ special.start_anchored_id → word_in special names sid ≡ name_at names sid
word-other special names sid ne =
    cond-false {A = Option (List ℕ)} (nat_eq sid special.start_anchored_id) (Some []) (name_at names sid) (ne_eqb sid special.start_anchored_id ne)

module _ (special : Special) (p : Patterns) (names : List (Option (List ℕ))) (states : List State) (a : IsAutomaton special p names states) (l : ListsExactly special states) where
  abbrev root : ℕ
  root = special.start_unanchored_id

  abbrev anchored : ℕ
  anchored = special.start_anchored_id

  -- what a state may stand for
  abbrev Cases : ℕ → Type 0
  Cases sid =
      ((sid ≡ dead_id) × (word_in special names sid ≡ None))
      ⊎ (((sid ≡ fail_id) × (word_in special names sid ≡ None))
      ⊎ (((sid ≡ anchored) × (word_in special names sid ≡ Some []))
      ⊎ ((word : List ℕ) × (name_at names sid ≡ Some word) × (word_in special names sid ≡ Some word) × (sid ≢ anchored))))

  cases : (sid : ℕ) → sid < length states → Cases sid
  cases sid below =
      elim (cases_eq sid anchored) [
        | inl start ↦ inr (inr (inl (start, cond-true {A = Option (List ℕ)} (nat_eq sid anchored) (Some []) (name_at names sid) (eq-eqb sid anchored start))))
        | inr apart ↦
            elim (cases_eq sid dead_id) [
              | inl dead ↦ inl (dead, word-other special names sid apart ∙ ap (name_at names) dead ∙ a.nodes.dead)
              | inr alive ↦
                  elim (cases_eq sid fail_id) [
                    | inl fail ↦ inr (inl (fail, word-other special names sid apart ∙ ap (name_at names) fail ∙ a.nodes.fail))
                    | inr kept ↦ (let word = a.complete sid below alive kept apart in inr (inr (inr (word.0, word.1, word-other special names sid apart ∙ word.1, apart))))
                  ]
            ]
      ]

  is_root : (sid : ℕ) → name_at names sid ≡ Some [] → sid ≡ root
  is_root sid e = a.nodes.unique sid root [] e a.nodes.root

  pub depth-word : (sid : ℕ) → sid < length states → depth_in states sid ≡ depth_of (word_in special names sid)
  depth-word sid below =
      elim (cases sid below) [
        | inl dead ↦ ap (depth_in states) dead.0 ∙ a.dead.depth ∙ sym (ap depth_of dead.1)
        | inr rest ↦
            elim rest [
              | inl fail ↦ ap (depth_in states) fail.0 ∙ ap (λ (s : State). s.depth) l.fail ∙ sym (ap depth_of fail.1)
              | inr others ↦
                  elim others [
                    | inl start ↦ ap (depth_in states) start.0 ∙ a.anchored.depth ∙ sym (ap depth_of start.1)
                    | inr named ↦ a.nodes.depths sid named.0 named.1 ∙ sym (ap depth_of named.2)
                  ]
            ]
      ]

  pub fail-word : (sid : ℕ) → sid < length states → IsStateOf names (link_of p (word_in special names sid)) (fail_in states sid)
  fail-word sid below =
      elim (cases sid below) [
        | inl dead ↦ by_word None dead.1 (ap (fail_in states) dead.0 ∙ a.dead.fail)
        | inr rest ↦
            elim rest [
              | inl fail ↦ by_word None fail.1 (ap (fail_in states) fail.0 ∙ ap (λ (s : State). s.fail) l.fail)
              | inr others ↦
                  elim others [
                    | inl start ↦ by_word (Some []) start.1 (ap (fail_in states) start.0 ∙ a.anchored.fail)
                    | inr named ↦ by_word (Some named.0) named.2 (of_named named.0 named.1)
                  ]
            ]
      ]
    where
      by_word : (word : Option (List ℕ)) → word_in special names sid ≡ word → IsStateOf names (link_of p word) (fail_in states sid) → IsStateOf names (link_of p (word_in special names sid)) (fail_in states sid)
      by_word word is h = subst (λ (o : Option (List ℕ)). IsStateOf names (link_of p o) (fail_in states sid)) (sym is) h

      of_named : (word : List ℕ) → name_at names sid ≡ Some word → IsStateOf names (link_of p (Some word)) (fail_in states sid)
      of_named [] e = ap (fail_in states) (is_root sid e) ∙ a.root_fail
      of_named (x ∷ u) e = (a.linked sid (x ∷ u) e (λ z. cc)).fail

  pub matches-word : (sid : ℕ) → sid < length states → matches_in states sid ≡ matches_of p (word_in special names sid)
  matches-word sid below =
      elim (cases sid below) [
        | inl dead ↦ ap (matches_in states) dead.0 ∙ a.dead.matches ∙ sym (ap (matches_of p) dead.1)
        | inr rest ↦
            elim rest [
              | inl fail ↦ ap (matches_in states) fail.0 ∙ ap (λ (s : State). s.matches) l.fail ∙ sym (ap (matches_of p) fail.1)
              | inr others ↦
                  elim others [
                    | inl start ↦ ap (matches_in states) start.0 ∙ a.anchored.matches ∙ sym (matches-root p) ∙ sym (ap (matches_of p) start.1)
                    | inr named ↦ of_named named.0 named.1 ∙ sym (ap (matches_of p) named.2)
                  ]
            ]
      ]
    where
      of_named : (word : List ℕ) → name_at names sid ≡ Some word → matches_in states sid ≡ matches_of p (Some word)
      of_named [] e = ap (matches_in states) (is_root sid e) ∙ a.root_matches ∙ sym (matches-root p)
      of_named (x ∷ u) e = (a.linked sid (x ∷ u) e (λ z. cc)).matches

  module _ (sid : ℕ) (below : sid < length states) where
    abbrev list : List (ℕ × ℕ)
    list = (state_at states sid).transitions

    abbrev ToNode : List ℕ → ℕ → Type 0
    ToNode word byte = (next : ℕ) × (entry_at list byte ≡ Some next) × (name_at names next ≡ Some (longer p word byte))

    no_word : {A : Type 0} (word : List ℕ) → word_in special names sid ≡ None → word_in special names sid ≡ Some word → A
    no_word word none some = let clash : None ≡ Some word = sym none ∙ some in cc

    same_word : (word other : List ℕ) → word_in special names sid ≡ Some word → word_in special names sid ≡ Some other → word ≡ other
    same_word word other e f = let both : Some word ≡ Some other = sym e ∙ f in cc

    leads : (word : List ℕ) (byte : ℕ) → next_in states sid byte ≢ fail_id → name_at names (next_in states sid byte) ≡ Some (longer p word byte) → ToNode word byte
    leads word byte ne named = (next_in states sid byte, entry-leads list byte ne, named)

    node_named : (word : List ℕ) (byte : ℕ) → byte < 256 → name_at names sid ≡ Some word → is_node p (longer p word byte) ≡ true → ToNode word byte
    node_named word byte small e node =
        let named = node_next root p names states a.nodes sid word byte small e node in
        leads word byte (named-ne_fail root p names states a.nodes (next_in states sid byte) (longer p word byte) named) named

    node_anchored : (byte : ℕ) → byte < 256 → sid ≡ anchored → is_node p (longer p [] byte) ≡ true → ToNode [] byte
    node_anchored byte small start node =
        let named = node_next root p names states a.nodes root [] byte small a.nodes.root node in
        let same : next_in states sid byte ≡ next_in states root byte = ap (λ (n : ℕ). next_in states n byte) start ∙ a.anchored.next byte small
        ∙ cond-true {A = ℕ} (is_node p (folded p byte ∷ [])) (next_in states root byte) fail_id node in
        let is : name_at names (next_in states sid byte) ≡ Some (longer p [] byte) = ap (name_at names) same ∙ named in
        leads [] byte (named-ne_fail root p names states a.nodes (next_in states sid byte) (longer p [] byte) is) is

    to_node : (word : List ℕ) (byte : ℕ) → word_in special names sid ≡ Some word → byte < 256 → is_node p (longer p word byte) ≡ true → ToNode word byte
    to_node word byte e small node =
        elim (cases sid below) [
          | inl dead ↦ no_word word dead.1 e
          | inr rest ↦
              elim rest [
                | inl fail ↦ no_word word fail.1 e
                | inr others ↦
                    elim others [
                      | inl start ↦
                          (let empty = same_word word [] e start.1 in
                          subst (λ (w : List ℕ). ToNode w byte) (sym empty) (node_anchored byte small start.0 (ap (λ (w : List ℕ). is_node p (longer p w byte)) (sym empty) ∙ node)))
                      | inr named ↦ node_named word byte small (named.1 ∙ sym named.2 ∙ e) node
                    ]
              ]
        ]

    other_named : (word : List ℕ) (byte : ℕ) → byte < 256 → sid ≢ anchored → name_at names sid ≡ Some word → is_node p (longer p word byte) ≡ false → entry_at list byte ≡ other_entry special p sid word
    other_named [] byte small apart e other =
        let next = other_next root p names states a.nodes sid [] byte small e other in
        entry-leads list byte (λ one. root_next-ne root p names states a.nodes (sym next ∙ one))
        ∙ ap Some (next ∙ sym (cond-false {A = ℕ} (nat_eq sid anchored) fail_id (missing_from root p []) (ne_eqb sid anchored apart)))
    other_named (x ∷ u) byte small apart e other =
        let next : next_in states sid byte ≡ fail_id = other_next root p names states a.nodes sid (x ∷ u) byte small e other in
        elim (cases_Bool (lists_byte states sid byte)) [
          | inl listed ↦ absurd (l.leading sid byte apart small listed next)
          | inr none ↦ cond-false {A = Option ℕ} (lists_transition list byte) (Some (transition_at list byte)) None none
        ]

    other_anchored : (byte : ℕ) → byte < 256 → sid ≡ anchored → is_node p (longer p [] byte) ≡ false → entry_at list byte ≡ other_entry special p sid []
    other_anchored byte small start other =
        let next : next_in states sid byte ≡ fail_id = ap (λ (n : ℕ). next_in states n byte) start ∙ a.anchored.next byte small
        ∙ cond-false {A = ℕ} (is_node p (folded p byte ∷ [])) (next_in states root byte) fail_id other in
        entry-listed list byte (ap (λ (n : ℕ). lists_byte states n byte) start ∙ l.anchored byte small)
        ∙ ap Some (next ∙ sym (cond-true {A = ℕ} (nat_eq sid anchored) fail_id (missing_from root p []) (eq-eqb sid anchored start)))

    to_other : (word : List ℕ) (byte : ℕ) → word_in special names sid ≡ Some word → byte < 256 → is_node p (longer p word byte) ≡ false → entry_at list byte ≡ other_entry special p sid word
    to_other word byte e small other =
        elim (cases sid below) [
          | inl dead ↦ no_word word dead.1 e
          | inr rest ↦
              elim rest [
                | inl fail ↦ no_word word fail.1 e
                | inr others ↦
                    elim others [
                      | inl start ↦
                          (let empty = same_word word [] e start.1 in
                          subst (λ (w : List ℕ). entry_at list byte ≡ other_entry special p sid w) (sym empty)
                          (other_anchored byte small start.0 (ap (λ (w : List ℕ). is_node p (longer p w byte)) (sym empty) ∙ other)))
                      | inr named ↦ other_named word byte small named.3 (named.1 ∙ sym named.2 ∙ e) other
                    ]
              ]
        ]

    pub transitions-word : AreOfWord special p names sid (state_at states sid).transitions
    transitions-word = record {
      to_node = to_node;
      to_other = to_other;
      of_dead = λ byte dead small.
          let next : next_in states sid byte ≡ dead_id = ap (λ (n : ℕ). next_in states n byte) dead ∙ a.nodes.dead_loop byte small in
          entry-leads (state_at states sid).transitions byte (λ e. omega (arith, e, next)) ∙ ap Some next;
      of_fail = λ fail. ap (λ (n : ℕ). (state_at states n).transitions) fail ∙ ap (λ (s : State). s.transitions) l.fail;
    }
