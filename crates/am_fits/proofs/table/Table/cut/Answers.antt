use Rattle.std.proofs.Common.{◌≡◌, ◌∙◌, ◌<◌, ◌≤◌, ◌-◌, length, take, refl, sym, ap, arith}
use Rattle.std.proofs.lemmas.List.{take_all}
use Rattle.am_fits.specs.declared.table.Table.{Table}
use Rattle.am_fits.specs.Runs.{keys_of}
use Rattle.am_fits.specs.Tables.{facts_in}
use Rattle.am_fits.proofs.TableLaws.{cut_table, cut_facts, facts_short}
use Rattle.am_fits.proofs.table.Table.cut.Goals as goal

keys : (c : goal.After-truncate) → keys_of c.drop_last.new.spans.items ≡ take (length (keys_of c.args.self.now.spans.items) - (length c.args.self.now.kept.items - c.args.count)) (keys_of c.args.self.now.spans.items)
keys c =
    let same : c.len-then-count-len.result ≡ length c.args.self.now.kept.items = omega (arith, c.len-then-count-len.ensures, c.args.self.now.kept.ok.0) in
    c.drop_last.ensures ∙ ap (λ n. take (length (keys_of c.args.self.now.spans.items) - (n - c.args.count)) (keys_of c.args.self.now.spans.items)) same

pub returns-then-count-len-clause-table : goal.returns-then-count-len-clause-table
returns-then-count-len-clause-table c =
    let t = c.args.self.now in
    let low : c.args.count < length t.kept.items = omega (arith, c.if-count-len.true, c.len.ensures, t.kept.ok.0) in
    cut_table t _ c.requires c.args.count low refl c.truncate.ensures.items (keys c) c.cut_each.ensures

pub returns-then-count-len-clause-facts : goal.returns-then-count-len-clause-facts
returns-then-count-len-clause-facts c =
    let t = c.args.self.now in
    let low : c.args.count < length t.kept.items = omega (arith, c.if-count-len.true, c.len.ensures, t.kept.ok.0) in
    let new : Table = record { texts = t.texts; kept = c.truncate.new.self; spans = c.drop_last.new.spans; runs = c.cut_each.new.authors } in
    cut_facts t new c.requires c.args.count low refl c.truncate.ensures.items (keys c) c.cut_each.ensures

pub returns-else-count-len-clause-facts : goal.returns-else-count-len-clause-facts
returns-else-count-len-clause-facts c =
    let t = c.args.self.now in
    let high : length t.kept.items ≤ c.args.count = omega (arith, c.if-count-len.false, c.len.ensures, t.kept.ok.0) in
    let short = facts_short t c.requires in
    sym (take_all c.args.count (facts_in t) (omega arith))
