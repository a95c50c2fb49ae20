use Rattle.std.proofs.Common.{ℕ, ◌≡◌, ◌∙◌, ◌++◌, All, Some, None, length, take, refl, sym, subst, ap, arith}
use Rattle.std.proofs.lemmas.List.{take_at}
use Rattle.am_types.specs.Operations.{operations}
use Rattle.am_graph.specs.Reaches.{number}
use Rattle.am_fits.specs.declared.table.Table.{Table}
use Rattle.am_fits.specs.Facts.{facts, fact_with}
use Rattle.am_fits.specs.Runs.{runs_in}
use Rattle.am_fits.specs.Words.{words_of, WordsGrow}
use Rattle.am_fits.proofs.Entering.{on_err}
use Rattle.am_fits.proofs.TableLaws.{table_same, facts_equal, are_new}
use Rattle.am_fits.proofs.table.Table.add.Given as given
use Rattle.am_fits.proofs.table.Table.add.Goals as goal

pub returns-in_err-author-clause-table : goal.returns-in_err-author-clause-table
returns-in_err-author-clause-table g c = table_same c.args.self.now _ c.requires.table (record { authors = c.in_err-author.ensures.grows; names = λ t n e. e }) refl refl (λ a. refl)

pub returns-in_err-author-clause-err : goal.returns-in_err-author-clause-err
returns-in_err-author-clause-err g c =
    let new : Table = record { texts = record { authors = c.number.new.texts; names = c.args.self.now.texts.names }; kept = c.args.self.now.kept; spans = c.args.self.now.spans; runs = c.args.self.now.runs } in
    on_err c.from_residual.result (facts_equal c.args.self.now new c.requires.table (record { authors = c.in_err-author.ensures.grows; names = λ t n e. e }) refl refl (λ a. refl))

pub returns-in_err-make_room-clause-table : goal.returns-in_err-make_room-clause-table
returns-in_err-make_room-clause-table g c = table_same c.args.self.now _ c.requires.table (record { authors = c.in_ok-author.ensures.grows; names = λ t n e. e }) refl refl c.in_err-make_room.ensures.runs

pub returns-in_err-make_room-clause-err : goal.returns-in_err-make_room-clause-err
returns-in_err-make_room-clause-err g c =
    let new : Table = record { texts = record { authors = c.number.new.texts; names = c.args.self.now.texts.names }; kept = c.args.self.now.kept; spans = c.args.self.now.spans; runs = c.make_room.new.authors } in
    on_err c.from_residual-in_err-make_room.result (facts_equal c.args.self.now new c.requires.table (record { authors = c.in_ok-author.ensures.grows; names = λ t n e. e }) refl refl c.in_err-make_room.ensures.runs)

pub returns-in_err-reserve-clause-table : goal.returns-in_err-reserve-clause-table
returns-in_err-reserve-clause-table g c = table_same c.args.self.now _ c.requires.table (record { authors = c.in_ok-author.ensures.grows; names = λ t n e. e }) refl c.in_err-reserve.ensures.items c.in_ok-make_room.ensures.runs

pub returns-in_err-reserve-clause-err : goal.returns-in_err-reserve-clause-err
returns-in_err-reserve-clause-err g c =
    let new : Table = record { texts = record { authors = c.number.new.texts; names = c.args.self.now.texts.names }; kept = c.args.self.now.kept; spans = c.reserve.new.self; runs = c.make_room.new.authors } in
    on_err c.from_residual-in_err-reserve.result (facts_equal c.args.self.now new c.requires.table (record { authors = c.in_ok-author.ensures.grows; names = λ t n e. e }) refl c.in_err-reserve.ensures.items c.in_ok-make_room.ensures.runs)

pub join-requires-clause-table : goal.join-requires-clause-table
join-requires-clause-table g c = table_same c.args.self.now _ c.requires.table (record { authors = c.in_ok-author.ensures.grows; names = λ t n e. e }) refl c.in_ok-reserve.ensures.items c.in_ok-make_room.ensures.runs

pub join-requires-clause-new : goal.join-requires-clause-new
join-requires-clause-new g c =
    let new : Table = record { texts = record { authors = c.number.new.texts; names = c.args.self.now.texts.names }; kept = c.args.self.now.kept; spans = c.reserve.new.self; runs = c.make_room.new.authors } in
    let same = facts_equal c.args.self.now new c.requires.table (record { authors = c.in_ok-author.ensures.grows; names = λ t n e. e }) refl c.in_ok-reserve.ensures.items c.in_ok-make_room.ensures.runs in
    are_new new (table_same c.args.self.now new c.requires.table (record { authors = c.in_ok-author.ensures.grows; names = λ t n e. e }) refl c.in_ok-reserve.ensures.items c.in_ok-make_room.ensures.runs)
    (g.C.ReadChange.change c.args.change.now) c.in_ok-author.author
    (subst (λ a. number c.number.new.texts a ≡ Some c.in_ok-author.author) (c.as_slice.ensures.value ∙ c.actor.ensures) c.in_ok-author.ensures.number)
    (subst (λ fs. All (λ x. fact_with fs x.id ≡ None) (operations (g.C.ReadChange.change c.args.change.now))) (sym same) c.requires.new)

pub returns-in-Ok-clause-ok : goal.returns-in-Ok-clause-ok
returns-in-Ok-clause-ok g c =
    let new : Table = record { texts = record { authors = c.number.new.texts; names = c.args.self.now.texts.names }; kept = c.args.self.now.kept; spans = c.reserve.new.self; runs = c.make_room.new.authors } in
    c.in-Ok.ensures.ok
    ∙ ap (λ fs. fs ++ facts (operations (g.C.ReadChange.change c.args.change.now)))
    (facts_equal c.args.self.now new c.requires.table (record { authors = c.in_ok-author.ensures.grows; names = λ t n e. e }) refl c.in_ok-reserve.ensures.items c.in_ok-make_room.ensures.runs)

grow : (g : given.Over) (c : goal.After-truncate g) → WordsGrow (words_of c.args.self.now.texts) (words_of c.join.new.self.texts)
grow g c = let more = c.in-Err.ensures.err.grow in record { authors = λ t n e. more.authors t n (c.in_ok-author.ensures.grows t n e); names = more.names }

spans : (g : given.Over) (c : goal.After-truncate g) → c.join.new.self.spans.items ≡ c.args.self.now.spans.items
spans g c = c.in-Err.ensures.err.spans ∙ c.in_ok-reserve.ensures.items

runs : (g : given.Over) (c : goal.After-truncate g) → (a : ℕ) → runs_in c.join.new.self.runs.items a ≡ runs_in c.args.self.now.runs.items a
runs g c a = c.in-Err.ensures.err.runs a ∙ c.in_ok-make_room.ensures.runs a

kept : (g : given.Over) (c : goal.After-truncate g) → c.truncate.new.self.items ≡ c.args.self.now.kept.items
kept g c =
    let long : length c.args.self.now.kept.items ≡ c.len-count.result = omega (arith, c.len-count.ensures, c.args.self.now.kept.ok.0) in
    c.truncate.ensures.items ∙ ap (take c.len-count.result) c.in-Err.ensures.err.kept ∙ take_at c.args.self.now.kept.items c.in-Err.ensures.err.rest c.len-count.result long

pub returns-in-Err-clause-table : goal.returns-in-Err-clause-table
returns-in-Err-clause-table g c = table_same c.args.self.now _ c.requires.table (grow g c) (kept g c) (spans g c) (runs g c)

pub returns-in-Err-clause-err : goal.returns-in-Err-clause-err
returns-in-Err-clause-err g c =
    let new : Table = record { texts = c.join.new.self.texts; kept = c.truncate.new.self; spans = c.join.new.self.spans; runs = c.join.new.self.runs } in
    facts_equal c.args.self.now new c.requires.table (grow g c) (kept g c) (spans g c) (runs g c)
