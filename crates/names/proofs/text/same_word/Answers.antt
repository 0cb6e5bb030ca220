-- `same_word`: the letters of both, where they are as many.
use Rattle.std.proofs.Common.{rules, ◌∙◌, length, refl, tests}
use Rattle.std.proofs.lemmas.Iterator.{YieldsList-from_slice, YieldsList-from_zip}
use Rattle.std.proofs.lemmas.Iterator.Search.{all_from_yields_List}
use borrow.Author.Tests.{eq-eqb}
use Rattle.names.specs.Text.{same_letter, same_word}
use Rattle.names.proofs.text.same_word.Goals as goal

pub returns-then-word-name : goal.returns-then-word-name
unfolding same_word
returns-then-word-name c =
    all_from_yields_List same_letter c.all.new.self _ c.all.result c.all.ensures.ran
    (YieldsList-from_zip {s = c.zip.result} (YieldsList-from_slice c.args.word.now cc) (YieldsList-from_slice c.args.name.now cc))
    (λ x b q k. search (rules, tests))
    ∙ rw (eq-eqb (length c.args.word.now) (length c.args.name.now) c.if-word-name.true) refl
