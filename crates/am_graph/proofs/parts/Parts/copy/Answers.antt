use Rattle.std.proofs.Common.{ℕ, ◌≡◌, get_or, List, Option, Some, None, option_map, Vec, Global, refl, sym, ap, subst, arith}
use Rattle.std.specs.BTreeMap.{is_at}
use Rattle.std.specs.Map.{lookup}
use Rattle.std.proofs.lemmas.List.Elements.{same_from_all_zip, AllZip-get_or}
use Rattle.am_types.specs.declared.Hash.{Hash}
use Rattle.am_graph.specs.contracts.parts.MarkClone.TheImpl as clone
use Rattle.am_graph.specs.declared.parts.Mark.{Mark}
use Rattle.am_graph.specs.declared.reach.Reach.{Reach}
use Rattle.am_graph.specs.Whole.{WholeOf, authors_of, pair_cmp}
use Rattle.am_graph.proofs.Copying.{IsAlike, whole_alike}
use Rattle.am_graph.proofs.parts.Parts.copy.Goals as goal

authors_same : (c : goal.In_ok-firsts) → authors_of (record { held = c.in_ok-held.held; marks = c.in_ok-marks.marks; authors = c.in_ok-authors.authors; firsts = c.in_ok-firsts.firsts }) ≡ authors_of c.args.self.now
authors_same c = c.in_ok-authors.ensures

firsts_same : (c : goal.In_ok-firsts) → c.in_ok-firsts.firsts.entries ≡ c.args.self.now.firsts.entries
firsts_same c = same_from_all_zip _ c.args.self.now.firsts.entries c.in_ok-firsts.firsts.entries c.in_ok-firsts.ensures.cases (λ x y h i. ((h.0.0 i, h.0.1 i), h.1 i))

alike : (m n : Mark) → clone.ghosts.is_clone m n → IsAlike m n
alike m n r = record { author = r.0; depth = r.1.0; kept = same m.kept n.kept r }
  where
    same : (o p : Option (Vec Reach Global)) → clone.ghosts.is_clone (record m { kept = o }) (record n { kept = p }) → option_map (λ v. v.items) p ≡ option_map (λ v. v.items) o
    same None None r = refl
    same None (Some w) r = absurd r.1.1.1.1
    same (Some v) None r = absurd r.1.1.1.1
    same (Some v) (Some w) r = ap Some (same_from_all_zip _ v.items w.items r.1.1.1.1.0 (λ x y h. h))

pub returns : goal.returns
returns c =
    let s = c.args.self.now in
    record {
      whole =
          subst (λ g. WholeOf g c.in_ok-marks.marks.items (authors_of (record { held = c.in_ok-held.held; marks = c.in_ok-marks.marks; authors = c.in_ok-authors.authors; firsts = c.in_ok-firsts.firsts })) (λ a q. lookup (is_at (pair_cmp (a, q))) c.in_ok-firsts.firsts.entries)) (sym c.in_ok-held.ensures)
          (subst (λ n. WholeOf s.held.entries c.in_ok-marks.marks.items n (λ a q. lookup (is_at (pair_cmp (a, q))) c.in_ok-firsts.firsts.entries)) (sym (authors_same c))
          (subst (λ (es : List ((ℕ × ℕ) × Hash)). WholeOf s.held.entries c.in_ok-marks.marks.items (authors_of s) (λ a q. lookup (is_at (pair_cmp (a, q))) es)) (sym (firsts_same c))
          (whole_alike s.held.entries s.marks.items c.in_ok-marks.marks.items (authors_of s) (λ a q. lookup (is_at (pair_cmp (a, q))) s.firsts.entries)
          (let a = s.marks.ok.0 in let b = c.in_ok-marks.marks.ok.0 in let e = c.in_ok-marks.ensures.cases.1 in omega arith)
          (λ k d l. alike (get_or s.marks.items k d) (get_or c.in_ok-marks.marks.items k d) (AllZip-get_or clone.ghosts.is_clone s.marks.items c.in_ok-marks.marks.items k d d c.in_ok-marks.ensures.cases.0 l)) c.requires)));
      held = c.in_ok-held.ensures;
    }
