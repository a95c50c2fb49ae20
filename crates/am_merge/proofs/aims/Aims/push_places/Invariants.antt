use Rattle.std.proofs.Common.{◌≡◌, ◌≤◌, ◌<◌, ◌-◌, ◌++◌, drop, filter, get_or, length, map}
use Rattle.am_merge.specs.Aims.{places_to}
use Rattle.am_merge.specs.Buckets.{is_in}
use Rattle.am_merge.specs.declared.aims.Aim.{Aim}
use Rattle.am_merge.proofs.aims.Aims.push_places.Given as goal

abbrev pub invariant-loop-next : goal.invariant-loop-next
invariant-loop-next l = record {
  bound : l.next ≤ length l.self.aims.items;
  is : (d : Aim) → l.next < length l.self.aims.items → (get_or l.self.aims.items l.next d).target ≡ l.at;
  rest : l.places.items ++ map (λ (a : Aim). a.place) (filter (is_in (λ (a : Aim). a.target) l.at) (drop l.next l.self.aims.items))
      ≡ l.fn.places.items ++ places_to l.self.aims.items l.at;
}

abbrev pub decreases-loop-next : goal.decreases-loop-next
decreases-loop-next l = length l.self.aims.items - l.next
