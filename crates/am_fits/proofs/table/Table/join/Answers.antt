use Rattle.std.proofs.Common.{◌≡◌, ◌∙◌, ◌++◌, ◌∷◌, [], AllPairs, length, refl, sym, subst, arith}
use Rattle.std.specs.Vec.{with_item}
use Rattle.am_fits.specs.declared.table.Table.{Table}
use Rattle.am_fits.specs.Runs.{Apart}
use Rattle.am_fits.proofs.Entering.{on_err}
use Rattle.am_fits.proofs.RunLaws.{runs_at, runs_kept, runs_set_other, joins_at}
use Rattle.am_fits.proofs.TableLaws.{joined, joined_facts}
use Rattle.am_fits.proofs.ReadLists.{length_read}
use Rattle.am_fits.proofs.table.Table.join.Given as given
use Rattle.am_fits.proofs.table.Table.join.Goals as goal

pub enter-requires : goal.enter-requires
enter-requires g c =
    subst (AllPairs Apart) (runs_at c.args.self.now.runs.items c.args.author c.index_mut.result.now c.requires.runs c.index_mut.ensures.value) (c.requires.table.runs.apart c.args.author)

pub returns-in_err-enter-clause-err : goal.returns-in_err-enter-clause-err
returns-in_err-enter-clause-err g c = on_err c.from_residual-in_err-enter.result (record {
  grow = c.in_ok-keep_each.ensures.grow;
  rest = c.in_ok-keep_each.ensures.begins.0;
  kept = c.in_ok-keep_each.ensures.begins.1;
  spans = refl;
  runs = runs_kept c.args.self.now.runs.items c.args.author c.index_mut.result.now c.enter.new.runs c.requires.runs c.index_mut.ensures.value c.in_err-enter.ensures.err;
})

spans : (g : given.Over) (c : goal.After-push_reserved g) → c.push_reserved.new.self.items ≡ c.args.self.now.spans.items ++ record { author = c.args.author; start = (g.C.ReadChange.change c.args.change.now).start; count = length (g.C.ReadChange.change c.args.change.now).ops } ∷ []
spans g c =
    let many = sym (length_read g.C.Op.ReadOp.op c.ops.result.now (g.C.ReadChange.change c.args.change.now).ops c.ops.ensures) in
    c.push_reserved.ensures.items ∙ (λ j. c.args.self.now.spans.items ++ record { author = c.args.author; start = c.start.ensures j; count = many j } ∷ [])

pub returns-clause-table : goal.returns-clause-table
returns-clause-table g c =
    let t = c.args.self.now in
    let first : c.len.result ≡ length t.kept.items = omega (arith, c.len.ensures, t.kept.ok.0) in
    joined t _ c.requires.table (g.C.ReadChange.change c.args.change.now) c.args.author _ c.in_ok-keep_each.ensures.grow c.in_ok-keep_each.ensures.ok
    (spans g c) c.requires.new c.requires.some c.start.ensures first (sym (length_read g.C.Op.ReadOp.op c.ops.result.now (g.C.ReadChange.change c.args.change.now).ops c.ops.ensures))
    (joins_at t.runs.items c.args.author c.index_mut.result.now c.enter.new.runs _ c.requires.runs c.index_mut.ensures.value c.in_ok-enter.ensures.ok)
    (runs_set_other t.runs.items c.args.author c.enter.new.runs)

pub returns-clause-ok : goal.returns-clause-ok
returns-clause-ok g c =
    let t = c.args.self.now in
    let first : c.len.result ≡ length t.kept.items = omega (arith, c.len.ensures, t.kept.ok.0) in
    let new : Table = record { texts = c.keep_each.new.texts; kept = c.keep_each.new.kept; spans = c.push_reserved.new.self; runs = with_item t.runs c.args.author c.enter.new.runs } in
    joined_facts t new c.requires.table (g.C.ReadChange.change c.args.change.now) c.args.author _ c.in_ok-keep_each.ensures.grow c.in_ok-keep_each.ensures.ok
    (spans g c) c.requires.new c.requires.some c.start.ensures first (sym (length_read g.C.Op.ReadOp.op c.ops.result.now (g.C.ReadChange.change c.args.change.now).ops c.ops.ensures))
    (joins_at t.runs.items c.args.author c.index_mut.result.now c.enter.new.runs _ c.requires.runs c.index_mut.ensures.value c.in_ok-enter.ensures.ok)
    (runs_set_other t.runs.items c.args.author c.enter.new.runs)
