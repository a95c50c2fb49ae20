use Rattle.std.proofs.Common.{List, ◌++◌, ◌∷◌, [], sym, ap, ◌∙◌, subst}
use Rattle.am_types.specs.EntryOrder.{IsInOrder}
use Rattle.am_types.specs.Views.{entry_of}
use Rattle.am_json.specs.Stretches.{Stretch, bare, spread, AreKept}
use Rattle.am_json.proofs.KeptLaws.{kept_more}
use Rattle.am_json.proofs.Taken.{order_with, all_with}
use Rattle.am_json.proofs.filled.take_one.Goals as goal

pub push-requires : goal.push-requires
push-requires g c =
    let next = c.next_into.ensures.next c.if-not-next_into.false in
    order_with c.args.entries.now (bare (entry_of c.next_into.new.entry)) (g.S.EntrySource.entries c.next_into.new.self) (g.S.EntrySource.entries c.args.source.now) next c.requires.order

pub returns-clause-kept : goal.returns-clause-kept
returns-clause-kept g c =
    let e = entry_of c.next_into.new.entry in
    let next = c.next_into.ensures.next c.if-not-next_into.false in
    let order : IsInOrder (spread c.args.entries.now ++ e ∷ []) =
    order_with c.args.entries.now (bare e) (g.S.EntrySource.entries c.next_into.new.self) (g.S.EntrySource.entries c.args.source.now) next c.requires.order in
    subst (AreKept c.args.form) (sym c.in_ok-push.ensures.ok) (kept_more c.args.form c.args.entries.now e c.requires.kept order)

pub returns-clause-all : goal.returns-clause-all
returns-clause-all g c =
    let e = entry_of c.next_into.new.entry in
    let rest = g.S.EntrySource.entries c.next_into.new.self in
    let next = c.next_into.ensures.next c.if-not-next_into.false in
    ap (λ (ss : List Stretch). spread ss ++ rest) c.in_ok-push.ensures.ok ∙ all_with c.args.entries.now (bare e) rest (g.S.EntrySource.entries c.args.source.now) next
