-- `raw`: a byte more, and where the loop ends.
use Rattle.std.proofs.Common.{rules, arith, length, ◌≡◌, ◌∙◌, sym, ap, tests}
use Rattle.std.proofs.lemmas.List.{length-set}
use Rattle.names.specs.Text.{first_word, after_word}
use Rattle.names.proofs.LineLaws.{raw_missing, raw_found, raw_more, pair_byte}
use Rattle.names.proofs.line.raw.Goals as goal

pub returns-in_err-byte : goal.returns-in_err-byte
returns-in_err-byte c =
    let one : length (after_word c.args.text.now) ≡ 0 = search (rules, tests) in
    let long : length (first_word c.args.text.now) ≡ 24 = ap length (sym c.first_word-digits.ensures) ∙ c.if-digits-ne-DIGITS.false in
    c.from_residual.ensures
    ∙ raw_missing c.args.text.now one long c.loop-k.k (omega arith)
    (pair_byte c.args.text.now c.first_word-digits.result.now c.as_chunks.result.0.now c.first_word-digits.ensures
    c.if-digits-ne-DIGITS.false c.as_chunks.ensures.front c.loop-k.k (omega arith)
    ∙ sym c.in_err-byte.ensures)

pub loop-k-preserved : goal.loop-k-preserved
loop-k-preserved c = record {
  whole = length-set c.loop-k.byte-items c.loop-k.k c.in_ok-byte.field-0 ∙ c.loop-k.invariant.whole;
  read =
      raw_more (first_word c.args.text.now) c.loop-k.byte-items c.loop-k.k c.in_ok-byte.field-0 (omega arith)
      (pair_byte c.args.text.now c.first_word-digits.result.now c.as_chunks.result.0.now c.first_word-digits.ensures
      c.if-digits-ne-DIGITS.false c.as_chunks.ensures.front c.loop-k.k (omega arith)
      ∙ sym c.in_ok-byte.ensures)
      c.loop-k.invariant.read;
}

pub returns : goal.returns
returns c =
    let one : length (after_word c.args.text.now) ≡ 0 = search (rules, tests) in
    let long : length (first_word c.args.text.now) ≡ 24 = ap length (sym c.first_word-digits.ensures) ∙ c.if-digits-ne-DIGITS.false in
    raw_found c.args.text.now one long c.loop-k.byte-items c.loop-k.invariant.whole
    (λ j less. c.loop-k.invariant.read j (omega (arith, less)))
