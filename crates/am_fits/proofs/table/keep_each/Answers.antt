use Rattle.std.proofs.Common.{ℕ, ◌≡◌, ◌∙◌, ◌<◌, ◌+◌, length, get_or, List, [], Some, sym, subst, arith}
use Rattle.std.proofs.lemmas.List.{append-nil}
use Rattle.am_graph.specs.Reaches.{number}
use Rattle.am_fits.specs.Words.{words_of, IsIdOf}
use Rattle.am_fits.specs.declared.table.Kept.{Kept}
use Rattle.am_fits.specs.Tables.{KeepsEach}
use Rattle.am_fits.proofs.Adding.{keeps_none, keeps_more}
use Rattle.am_fits.proofs.ReadLists.{length_read, read_at}
use Rattle.am_fits.proofs.table.keep_each.Goals as goal

pub loop-i-init : goal.loop-i-init
loop-i-init g c =
    let change = g.C.ReadChange.change c.args.change.now in
    record {
      grow = record { authors = λ t n e. e; names = λ t n e. e };
      author = c.requires.author;
      last = subst (λ a. number (words_of c.args.texts.now).authors a ≡ Some c.args.author) (sym (c.as_slice.ensures.value ∙ c.actor.ensures)) c.requires.author;
      keeps = subst (λ (ks : List Kept). KeepsEach (words_of c.args.texts.now) c.args.author change 0 c.args.kept.now.items ks) (sym c.reserve.ensures.items)
          (keeps_none (words_of c.args.texts.now) c.args.author change c.args.kept.now.items);
    }

pub loop-i-preserved : goal.loop-i-preserved
loop-i-preserved g c =
    let change = g.C.ReadChange.change c.args.change.now in
    let h = c.loop-i.invariant in
    let i = c.loop-i.i in
    let op = g.C.Op.ReadOp.op c.index-ops-i.result in
    let grow = c.in_ok-one.ensures.grow in
    let l : i < length change.ops = omega (arith, length_read g.C.Op.ReadOp.op c.ops-ops.result.now change.ops c.ops-ops.ensures, c.loop-i-test.true) in
    let at : op ≡ get_or change.ops i op = sym (read_at g.C.Op.ReadOp.op c.ops-ops.result.now change.ops c.ops-ops.ensures i c.index-ops-i.result c.loop-i-test.true c.index-ops-i.is op) in
    record {
      grow = record { authors = λ t n e. grow.authors t n (h.grow.authors t n e); names = λ t n e. grow.names t n (h.grow.names t n e) };
      author = grow.authors change.actor c.args.author h.author;
      last = c.in_ok-one.ensures.last;
      keeps = keeps_more (words_of c.loop-i.texts) (words_of c.kept.new.self) grow c.args.author change h.author i op l at c.in_ok-one.one
          (λ n own. c.in_ok-one.ensures.fact n (subst (λ (s : ℕ). IsIdOf (words_of c.loop-i.texts) (record { author = c.args.author; counter = s + i }) n) (sym c.start.ensures) own))
          c.args.kept.now.items c.loop-i.kept.items c.push.new.self.items h.keeps c.in_ok-push.ensures.items;
    }

pub returns-in_err-reserve-clause-begins : goal.returns-in_err-reserve-clause-begins
returns-in_err-reserve-clause-begins g c = ([], c.reserve.ensures.items ∙ sym (append-nil c.args.kept.now.items))
