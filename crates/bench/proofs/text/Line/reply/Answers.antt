use Rattle.std.specs.Prelude.{◌≡◌, List, ℕ, [], ◌∷◌, ◌++◌, ◌≤◌, length}
use Rattle.std.proofs.Common.{arith, ap, ◌∙◌, length-append}
use Rattle.calls.specs.Table.{number}
use Rattle.bma150.specs.Called.{next_due}
use Rattle.bench.specs.Text.{space, hex, word, due_text, appended}
use Rattle.bench.specs.Line.{line, pins, answer_adds, added_text}
use Rattle.bench.proofs.Appended.{all, begun, went_on}
use Rattle.bench.proofs.Fits.{word_fits, due_fits}
use Rattle.bench.proofs.text.Line.reply.Goals as goal

pub returns : goal.returns
unfolding line
returns c =
    let answer = c.args.answer in
    let sensor = c.args.sensor.now in
    let front : List ℕ = hex c.args.b ++ (space ∷ []) in
    let name : List ℕ = word (number answer) in
    let added : List ℕ = added_text (answer_adds answer) in
    let due : List ℕ = due_text c.args.trace (next_due sensor) in
    let six : length (pins sensor) ≡ 6 = unfold pins in omega arith in
    let fits : length (front ++ name ++ pins sensor ++ added ++ due ++ (10 ∷ [])) ≤ 128 =
    simp length-append (omega (arith, six, word_fits answer, c.added.ensures.fits, due_fits c.args.trace (next_due sensor))) in
    went_on _ _
    (went_on _ _
    (went_on _ _
    (went_on _ _ (went_on _ _ (went_on _ _ (begun (hex c.args.b) c.requires c.hex.ensures) c.put.ensures) c.answer.ensures) (c.word.ensures ∙ ap (appended c.answer.new.self) c.pins.ensures))
    c.added.ensures.text)
    c.due.ensures)
    c.put-2.ensures
    ∙ all _ fits
