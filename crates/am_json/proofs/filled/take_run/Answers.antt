use Rattle.std.proofs.Common.{◌≡◌, ℕ, List, ◌++◌, ◌∷◌, [], sym, ap, ◌∙◌, subst}
use Rattle.std.specs.Str.{IsAscii}
use Rattle.am_types.specs.declared.Entry.{Entry}
use Rattle.am_types.specs.EntryOrder.{IsInOrder}
use Rattle.am_types.specs.Letters.{IsRun}
use Rattle.am_types.specs.Views.{entry_of}
use Rattle.am_json.specs.declared.form.Form.TheVariants as forms
use Rattle.am_json.specs.Stretches.{Stretch, spread, AreKept}
use Rattle.am_json.specs.Turns.{between}
use Rattle.am_json.proofs.KeptLaws.{kept_run, letters_ascii}
use Rattle.am_json.proofs.Spread.{between_is}
use Rattle.am_json.proofs.Taken.{order_with, all_with}
use Rattle.am_json.proofs.filled.take_run.Goals as goal

-- the entries that were handed out are those of the letters
stands_for : {X : Type 0} (entries : X → List Entry) (before old new : X) (letters : List Entry) (e : Entry) (stands : List Entry)
    → stands ≡ between (entries before) (entries new) → before ≡ old → entries old ≡ letters ++ e ∷ entries new → stands ≡ letters
stands_for entries before old new letters e stands is same next =
    is ∙ (ap (λ x. between (entries x) (entries new)) same ∙ between_is letters e (entries new) (entries old) next)

pub text_of_letters-requires : goal.text_of_letters-requires
text_of_letters-requires g c = letters_ascii _ c.in-Some.ensures.next.0 c.in-Some.letters.now c.in-Some.ensures.next.2.letters

pub push_run-requires-clause-ascii : goal.push_run-requires-clause-ascii
push_run-requires-clause-ascii g c =
    subst IsAscii (sym c.text_of_letters.ensures) (letters_ascii _ c.in-Some.ensures.next.0 c.in-Some.letters.now c.in-Some.ensures.next.2.letters)

pub push_run-requires-clause-order : goal.push_run-requires-clause-order
push_run-requires-clause-order g c =
    let e = entry_of c.next_run.new.entry in
    let run = c.in-Some.ensures.next in
    let stands = stands_for g.S.EntrySource.entries c.of-before.result.value c.args.source.now c.next_run.new.self run.0 e c.handed_out-stands.result.entries c.handed_out-stands.ensures c.of-before.ensures run.1 in
    let s : Stretch = record { letters = run.0; bytes = []; entry = e } in
    subst (λ (es : List Entry). IsInOrder (spread c.args.entries.now ++ (es ++ e ∷ []))) (sym stands)
    (order_with c.args.entries.now s (g.S.EntrySource.entries c.next_run.new.self) (g.S.EntrySource.entries c.args.source.now) run.1 c.requires.order)

pub returns-clause-kept : goal.returns-clause-kept
returns-clause-kept g c =
    let e = entry_of c.next_run.new.entry in
    let run = c.in-Some.ensures.next in
    let stands = stands_for g.S.EntrySource.entries c.of-before.result.value c.args.source.now c.next_run.new.self run.0 e c.handed_out-stands.result.entries c.handed_out-stands.ensures c.of-before.ensures run.1 in
    let s : Stretch = record { letters = c.handed_out-stands.result.entries; bytes = c.text_of_letters.result.now; entry = e } in
    let is : IsRun c.handed_out-stands.result.entries c.text_of_letters.result.now e =
    subst (λ (bs : List ℕ). IsRun c.handed_out-stands.result.entries bs e) (sym c.text_of_letters.ensures)
    (subst (λ (es : List Entry). IsRun es c.in-Some.letters.now e) (sym stands) run.2) in
    let next : g.S.EntrySource.entries c.args.source.now ≡ c.handed_out-stands.result.entries ++ e ∷ g.S.EntrySource.entries c.next_run.new.self =
    run.1 ∙ ap (λ (es : List Entry). es ++ e ∷ g.S.EntrySource.entries c.next_run.new.self) (sym stands) in
    let order = order_with c.args.entries.now s (g.S.EntrySource.entries c.next_run.new.self) (g.S.EntrySource.entries c.args.source.now) next c.requires.order in
    subst (AreKept forms.Winners) (sym c.in_ok-push_run-in-Some.ensures.ok) (kept_run c.args.entries.now s c.requires.kept c.requires.closed is order)

pub returns-clause-all : goal.returns-clause-all
returns-clause-all g c =
    let e = entry_of c.next_run.new.entry in
    let run = c.in-Some.ensures.next in
    let rest = g.S.EntrySource.entries c.next_run.new.self in
    let stands = stands_for g.S.EntrySource.entries c.of-before.result.value c.args.source.now c.next_run.new.self run.0 e c.handed_out-stands.result.entries c.handed_out-stands.ensures c.of-before.ensures run.1 in
    let s : Stretch = record { letters = c.handed_out-stands.result.entries; bytes = c.text_of_letters.result.now; entry = e } in
    let next : g.S.EntrySource.entries c.args.source.now ≡ c.handed_out-stands.result.entries ++ e ∷ g.S.EntrySource.entries c.next_run.new.self =
    run.1 ∙ ap (λ (es : List Entry). es ++ e ∷ g.S.EntrySource.entries c.next_run.new.self) (sym stands) in
    ap (λ (ss : List Stretch). spread ss ++ rest) c.in_ok-push_run-in-Some.ensures.ok ∙ all_with c.args.entries.now s rest (g.S.EntrySource.entries c.args.source.now) next
