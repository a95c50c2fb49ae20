use Rattle.std.proofs.Common.{◌≡◌, ◌-◌, ◌++◌, ◌∷◌, ◌∙◌, ℕ, suc, refl, sym, ap, inr, take, drop, List, [], pos, arith}
use Rattle.am_types.specs.declared.Key.TheVariants.{Elem}
use Rattle.am_types.specs.declared.Row.{Row}
use Rattle.am_types.specs.Actions as actions
use Rattle.am_types.specs.Views.{id_of, object_of}
use Rattle.am_doccols.specs.Rows.{rows_from}
use Rattle.am_view.specs.Seen.{seen_by}
use Rattle.am_view.specs.Steps.{walk}
use Rattle.am_view.proofs.LetterRows.{columns_known, letters_shown, even_behind}
use Rattle.am_view.proofs.scan.Scan.next_letters.Goals as goal

pub invariant_of-self-2 : goal.invariant_of-self-2
invariant_of-self-2 c =
    let at = c.self.inside in
    let inv = c.self.invariant in
    let n = c.covered_ids-count.result in
    let m = n - 1 in
    let cols = columns_known (seen_by c.args.clock.now) (object_of c.known_alike-alike.result.0) n c.settings-set.result c.insertions-inserted.result c.known_alike-alike.result.1 c.next_letters-letters.result.now at.objects at.keys at.ids at.inserts at.actions at.values _ at.succs at.lengths at.expands at.marks
    c.covered_ids-count.ensures.few c.next_letters-letters.ensures.few c.settings-set.ensures.few c.insertions-inserted.ensures.few c.known_alike-alike.ensures.few inv.0 inv.1 inv.2 inv.6 inv.7 c.known_alike-alike.ensures.like c.covered_ids-count.ensures.covered c.insertions-inserted.ensures.inserts c.settings-set.ensures.set
    (sym c.again.ensures ∙ c.next_letters-letters.ensures.next) c.next_letters-letters.ensures.ascii c.insertions-inserted.ensures.lengths inv.9 in
    let read : drop m at.ids ≡ id_of c.next-id.result ∷ c.next-id.new.self = ap (drop m) (sym c.covered_ids-count.ensures.ids) ∙ sym c.pass_many-2.ensures ∙ c.next-id.ensures in
    let size : suc m ≡ n = omega arith in
    even_behind m n (id_of c.next-id.result) at.objects _ at.keys _ at.ids _ at.inserts _ at.actions _ at.values _ at.succs _ at.lengths _ at.expands _ at.marks _ size inv cols.succs read
    c.skip.ensures c.pass_many.ensures c.skip-2.ensures c.skip-3.ensures c.skip-4.ensures c.pass_many-3.ensures c.skip-5.ensures c.skip-6.ensures c.skip-7.ensures

pub returns-clause-some : goal.returns-clause-some
returns-clause-some c =
    let at = c.self.inside in
    let inv = c.self.invariant in
    let see = seen_by c.args.clock.now in
    let o = object_of c.known_alike-alike.result.0 in
    let n = c.covered_ids-count.result in
    let m = n - 1 in
    let bs : List ℕ = c.next_letters-letters.result.now in
    let id = id_of c.next-id.result in
    let cols = columns_known see o n c.settings-set.result c.insertions-inserted.result c.known_alike-alike.result.1 bs at.objects at.keys at.ids at.inserts at.actions at.values _ at.succs at.lengths at.expands at.marks
    c.covered_ids-count.ensures.few c.next_letters-letters.ensures.few c.settings-set.ensures.few c.insertions-inserted.ensures.few c.known_alike-alike.ensures.few inv.0 inv.1 inv.2 inv.6 inv.7 c.known_alike-alike.ensures.like c.covered_ids-count.ensures.covered c.insertions-inserted.ensures.inserts c.settings-set.ensures.set
    (sym c.again.ensures ∙ c.next_letters-letters.ensures.next) c.next_letters-letters.ensures.ascii c.insertions-inserted.ensures.lengths inv.9 in
    let read : drop m at.ids ≡ id ∷ c.next-id.new.self = ap (drop m) (sym c.covered_ids-count.ensures.ids) ∙ sym c.pass_many-2.ensures ∙ c.next-id.ensures in
    let size : suc m ≡ n = omega arith in
    let w = letters_shown see o m n bs id at.objects _ at.keys _ at.ids _ at.inserts _ at.actions _ at.values _ at.succs _ at.expands _ at.marks _ size cols read
    c.skip.ensures c.pass_many.ensures c.skip-2.ensures c.skip-3.ensures c.skip-4.ensures c.pass_many-3.ensures c.skip-6.ensures c.skip-7.ensures in
    let rest : List Row = rows_from c.skip.new.self c.pass_many.new.self c.next-id.new.self c.skip-2.new.self c.skip-3.new.self c.skip-4.new.self c.pass_many-3.new.self c.skip-6.new.self c.skip-7.new.self in
    let raw : take (n - m) (drop m bs) ≡ w.byte ∷ [] = ap (λ k. take k (drop m bs)) (let one : n - m ≡ 1 = omega arith in one) ∙ w.last in (
      w.entries,
      ap (walk see) (sym c.self.view_is) ∙ w.walked
          ∙ ap (λ raw. w.entries ++ record { obj = o; slot = Elem id; id = id; action = actions.set; value = record { kind = 6; raw = raw }; total = pos 0 } ∷ walk see rest) (sym raw),
      record { letters = w.letters; behind = inr refl },
    )
