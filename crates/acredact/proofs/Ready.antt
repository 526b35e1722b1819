-- What is loaded can be searched for.
use Rattle.acredact.proofs.Common.{AsWord, Bor, CanBegin, CanDoStreams, CanRedact, CanSearch, Given, IsOk, List, No, None, Option, Patterns, Rule, Searcher, Some, Standard, [], and_parts, ap, arith, covers_asked, has, last_value, length, length-map, map, of_searcher, option_and_then, patterns_by_given, patterns_in, pieces_of, refl, secrets_of, shortest, subst, sym, texts_looked_for, true, words_asked, ℕ, ◌∙◌, ◌∷◌, ◌≡◌, ◌≤◌}
use Rattle.std.proofs.Common.{Bool}
use Rattle.std.specs.Prelude.{codes, unwrap_or}
use Rattle.std.proofs.lemmas.Slice.Eq.{bytes_eq-Decides}
use Rattle.chromesquid.proofs.Built.{count_of, finds_by, shortest_of, start_of}
use Rattle.chromesquid.specs.Searcher.{Answers, IsBuiltFrom}
use Rattle.tool_parts.specs.Arguments.{kind_by}
use Rattle.acredact.specs.Arguments.{is_cover}
use Rattle.acredact.specs.Checks.{IsByTexts}
use Rattle.acredact.specs.Ready.{IsReadyFor}
use Rattle.acredact.specs.declared.options.Word.TheVariants.{Kind}
use Rattle.acredact.specs.declared.prepare.Ready.{Ready}

-- no pattern is empty
pub rules_shortest : (rules : List Rule) → 1 ≤ shortest (map length (patterns_in (secrets_of rules)))
rules_shortest [] = omega arith
rules_shortest (rule ∷ rules) = omega (arith, rule.some, rules_shortest rules)

-- a cover is by the standard kind
standard_by : (asked : Option (List ℕ)) → is_cover (unwrap_or asked (codes "cover")) ≡ true → unwrap_or (option_and_then kind_by asked) Standard ≡ Standard
standard_by None is = refl
standard_by (Some name) is = ap (λ (name : List ℕ). unwrap_or (kind_by name) Standard) ((bytes_eq-Decides name (codes "cover")).0 is)

-- a searcher of such patterns begins streams
begins_of : (searcher : Searcher) (p : Patterns) → IsBuiltFrom searcher p → Answers searcher No → 1 ≤ shortest (map length p.words) → CanBegin of_searcher searcher
begins_of searcher p built answers some =
    let start = start_of No searcher (p, built) answers in
    (start.0, subst (λ (least : ℕ). 1 ≤ least) (sym (shortest_of p searcher built)) some, start.1)

-- one of all that occurs searches lines
pub searcher_searches : (searcher : Searcher) (p : Patterns) → IsBuiltFrom searcher p → Answers searcher No → p.kind ≡ Standard → 1 ≤ shortest (map length p.words) → CanSearch of_searcher searcher
searcher_searches searcher p built answers standard some =
    let begins = begins_of searcher p built answers some in
    record { of = (p, built); standard = finds_by p searcher built ∙ standard; starts = subst IsOk (sym begins.2) refl; full = begins.1 }

module _ (given : List Given) (rules : List Rule) (ready : Ready) (is : IsReadyFor given (secrets_of rules) ready) where
  abbrev searches : (covers : Bool) {Besides : Type 0} → (covers ≡ true → covers_asked given ≡ true) → Besides → CanDoStreams of_searcher ready.searcher covers Besides
  searches covers asks besides =
      let p = patterns_by_given given (patterns_in (secrets_of rules)) in
      record {
        patterns = p;
        of = is.of;
        begins = begins_of ready.searcher p is.of is.answers (rules_shortest rules);
        standard = λ asked. finds_by p ready.searcher is.of ∙ standard_by (last_value Kind given) (asks asked);
        besides = besides;
      }

  -- it redacts files
  pub ready_redacts : (covers : Bool) → covers ≡ covers_asked given → (replacements : List (Bor (List ℕ))) → pieces_of replacements ≡ pieces_of ready.replacements.items → CanRedact of_searcher ready.searcher covers replacements
  ready_redacts covers same replacements pieces =
      searches covers (λ asked. sym same ∙ asked)
      (sym (length-map replacements (λ piece. piece.now)) ∙ ap length (pieces ∙ is.pieces) ∙ length-map (secrets_of rules) _ ∙ sym (length-map (secrets_of rules) _) ∙ sym (count_of (patterns_by_given given (patterns_in (secrets_of rules))) ready.searcher is.of))

  -- and looks at them
  pub ready_looks : (words : Bool) → words ≡ words_asked given → IsByTexts of_searcher ready.searcher words (texts_looked_for given (secrets_of rules))
  ready_looks words same = record { can = searches words (λ asked. (and_parts (covers_asked given) (has AsWord given) (sym same ∙ asked)).0) tt; is = rw same refl }
