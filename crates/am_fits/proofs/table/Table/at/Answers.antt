use Rattle.std.proofs.Common.{◌≡◌, ◌∙◌, ◌+◌, ◌<◌, ◌^◌, AllPairs, All, length, Some, subst, sym, arith}
use Rattle.am_types.specs.declared.OpId.{OpId}
use Rattle.am_graph.specs.Reaches.{number}
use Rattle.am_fits.specs.declared.runs.Run.{Run}
use Rattle.am_fits.specs.Runs.{Apart, HasPlace, keys_of, runs_in}
use Rattle.am_fits.specs.Tables.{entries_in}
use Rattle.am_fits.specs.Words.{words_of}
use Rattle.am_fits.proofs.Lookups.{not_found}
use Rattle.am_fits.proofs.RunLaws.{runs_at}
use Rattle.am_fits.proofs.TableLaws.{there, nowhere, no_runs, place_within, runs_low}
use Rattle.am_fits.proofs.table.Table.at.Goals as goal

pub returns-in_default : goal.returns-in_default
returns-in_default c x e =
    not_found (words_of c.args.self.now.texts) (record { counter = c.args.counter; actor = x }) (sym e ∙ c.in_default.is) (entries_in c.args.self.now) c.requires.kept

pub returns-then-author-len : goal.returns-then-author-len
returns-then-author-len c x e =
    let t = c.args.self.now in
    let author = c.in-Some.author in
    let i : OpId = record { counter = c.args.counter; actor = x } in
    let named : number (words_of t.texts).authors x ≡ Some author = sym e ∙ c.in-Some.is in
    no_runs t c.requires author i named (omega (arith, c.if-author-len.true, c.len.ensures, t.runs.ok.0))

pub place_of-requires-clause-apart : goal.place_of-requires-clause-apart
place_of-requires-clause-apart c =
    let t = c.args.self.now in
    let author = c.in-Some.author in
    let l : author < length t.runs.items = omega (arith, c.if-author-len.false, c.len.ensures, t.runs.ok.0) in
    let same : runs_in t.runs.items author ≡ c.as_slice.result.now = runs_at t.runs.items author c.index.result.now l c.index.ensures ∙ sym c.as_slice.ensures.value in
    subst (AllPairs Apart) same (c.requires.runs.apart author)

pub place_of-requires-clause-low : goal.place_of-requires-clause-low
place_of-requires-clause-low c =
    let t = c.args.self.now in
    let author = c.in-Some.author in
    let l : author < length t.runs.items = omega (arith, c.if-author-len.false, c.len.ensures, t.runs.ok.0) in
    let same : runs_in t.runs.items author ≡ c.as_slice.result.now = runs_at t.runs.items author c.index.result.now l c.index.ensures ∙ sym c.as_slice.ensures.value in
    let keys = keys_of t.spans.items in
    let short : length keys < 2 ^ 64 = omega (arith, c.requires.even, t.kept.ok) in
    subst (All (λ (r : Run). r.first + r.count < 2 ^ 64)) same (runs_low keys (runs_in t.runs.items) author c.requires.runs short)

pub returns-in_default-place_of : goal.returns-in_default-place_of
returns-in_default-place_of c x e =
    let t = c.args.self.now in
    let author = c.in-Some.author in
    let l : author < length t.runs.items = omega (arith, c.if-author-len.false, c.len.ensures, t.runs.ok.0) in
    let same : runs_in t.runs.items author ≡ c.as_slice.result.now = runs_at t.runs.items author c.index.result.now l c.index.ensures ∙ sym c.as_slice.ensures.value in
    let i : OpId = record { counter = c.args.counter; actor = x } in
    let named : number (words_of t.texts).authors x ≡ Some author = sym e ∙ c.in-Some.is in
    nowhere t c.requires author i named (λ p h. c.in_default-place_of.ensures.none p (subst (λ rs. HasPlace rs i.counter p) same h))

pub index-kept-requires : goal.index-kept-requires
index-kept-requires c =
    let t = c.args.self.now in
    let author = c.in-Some.author in
    let l : author < length t.runs.items = omega (arith, c.if-author-len.false, c.len.ensures, t.runs.ok.0) in
    let same : runs_in t.runs.items author ≡ c.as_slice.result.now = runs_at t.runs.items author c.index.result.now l c.index.ensures ∙ sym c.as_slice.ensures.value in
    let within = place_within t c.requires author c.args.counter c.in-Some-place_of.place (subst (λ rs. HasPlace rs c.args.counter c.in-Some-place_of.place) (sym same) c.in-Some-place_of.ensures.some) in
    omega (arith, within, t.kept.ok.0)

pub returns : goal.returns
returns c x e =
    let t = c.args.self.now in
    let author = c.in-Some.author in
    let l : author < length t.runs.items = omega (arith, c.if-author-len.false, c.len.ensures, t.runs.ok.0) in
    let same : runs_in t.runs.items author ≡ c.as_slice.result.now = runs_at t.runs.items author c.index.result.now l c.index.ensures ∙ sym c.as_slice.ensures.value in
    let i : OpId = record { counter = c.args.counter; actor = x } in
    let named : number (words_of t.texts).authors x ≡ Some author = sym e ∙ c.in-Some.is in
    let place = c.in-Some-place_of.place in
    let kept = c.index-kept.result.now in
    let h = subst (λ rs. HasPlace rs i.counter place) (sym same) c.in-Some-place_of.ensures.some in
    let within = place_within t c.requires author c.args.counter place h in
    (λ j. Some (record { object = c.lend_object.ensures j; slot = c.lend_slot.ensures j; action = kept.action; insert = kept.insert }))
    ∙ there t c.requires author i named place kept h c.index-kept.ensures within
