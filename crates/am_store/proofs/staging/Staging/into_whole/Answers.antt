use Rattle.std.proofs.Common.{rules, ◌≡◌, ◌++◌, length, refl, sym, ap, subst, ◌∙◌}
use Rattle.std.proofs.lemmas.List.{nil_from_length}
use Rattle.am_fits.specs.Indexes.{AreOf}
use Rattle.am_delivery.specs.Waiting.{members_of}
use Rattle.am_store.specs.Grown.{Grown}
use Rattle.am_store.specs.Growing.{ArePartsOf}
use Rattle.am_store.specs.declared.parts.Parts.{Parts}
use Rattle.am_store.proofs.Stagings.{all_written}
use Rattle.am_store.proofs.staging.Staging.into_whole.Goals as goal

pub returns-clause-ok : goal.returns-clause-ok
returns-clause-ok c =
    let s = c.self.inside in
    let old = s.old.entries in
    let fresh = s.fresh.entries in
    let is : old ≡ c.args.self.old = ap (λ (g : Grown). g.old) c.self.view_is in
    let also : fresh ≡ c.args.self.fresh = ap (λ (g : Grown). g.fresh) c.self.view_is in
    let rest : members_of (old ++ fresh) ≡ members_of old = (λ i. members_of (is i ++ also i)) ∙ c.requires ∙ ap members_of (sym is) in
    let none : length s.staged.items ≡ 0 = search rules in
    let p : Parts = record { closed = s.old; contents = s.contents; graph = s.graph; index = s.index } in
    let are : ArePartsOf old p = record {
      closed = refl;
      contents = all_written s.written.entries old s.staged.items c.self.invariant.staged (nil_from_length s.staged.items none) s.contents c.self.invariant.contents;
      of_set = subst (λ C. AreOf C s.graph s.index) rest c.self.invariant.grown.of_set;
    } in
    subst (λ es. ArePartsOf es p) is are
