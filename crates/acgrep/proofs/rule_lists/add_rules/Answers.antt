-- The rules are those of the program, or of the file.
use Rattle.std.proofs.Common.{◌++◌, ◌∙◌, ◌∷◌, ◌≡◌, List, [], ap, inl, refl, sym, ℕ}
use Rattle.acgrep.proofs.MarksTold.{some-told}
use Rattle.acgrep.proofs.rule_lists.add_rules.Goals as goal

pub returns-then-eq-clause-added : goal.returns-then-eq-clause-added
returns-then-eq-clause-added g c = λ is.
    let added = c.add_text.ensures.added is in
    record { more = added.more; grown = added.grown; of = rw (sym c.eq.ensures ∙ c.if-eq.true) (refl, (c.as_bytes.result.now, added.of)) }

pub returns-in-Ok-clause-added : goal.returns-in-Ok-clause-added
returns-in-Ok-clause-added g c = λ is.
    let read = c.in-Ok.ensures.added in
    let all : c.as_slice.result.now ≡ read.text = c.as_slice.ensures.value ∙ read.grown ∙ ap (λ (l : List ℕ). l ++ read.text) c.new-text.ensures.items in
    let added = c.add_text-in-Ok.ensures.added is in
    record { more = added.more; grown = added.grown; of = rw (sym c.eq.ensures ∙ c.if-eq.false) (record { text = read.text; is = read.is; told = rw all at added.of }) }

pub returns-clause-told : goal.returns-clause-told
returns-clause-told g c = λ is. some-told g.E.Sink (c.args.name.now ∷ []) c.args.errors.now c.tell_source.new.errors (c.tell_source.ensures.told (c.args.name.now ∷ []) (inl refl))
