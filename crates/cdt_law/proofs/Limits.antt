-- If the edit of a fresh plan is refused at the history's front, then for a limit.
use Rattle.std.proofs.Common.{◌≡◌, ℕ, ◌+◌, ◌≤◌, inl, inr, refl, sym, ap, ◌∙◌, arith, List, [], ◌∷◌, Bool, true, false, cond, Some, None}
use Rattle.std.specs.Prelude.{ℤ, not, Option, option_map, is_some, length}
use Rattle.std.specs.List.{position_from}
use Rattle.std.specs.FinMap as finmap
use Rattle.ground_model.specs.declared.limits.Limits.{Limits}
use Rattle.ground_model.specs.declared.entry.Entry.{Entry}
use Rattle.ground_model.specs.declared.line.LineId.{LineId}
use Rattle.ground_model.specs.declared.line.LineKind.{LineKind}
use Rattle.ground_model.specs.declared.edit.Edit.{Edit}
use Rattle.ground_model.specs.declared.edit.Edit.TheVariants.{AddPoint, RemovePoint, SetLevel, AddLine, RemoveLine}
use Rattle.ground_model.specs.Place.{Coords}
use Rattle.ground_model.specs.Line.{has_place}
use Rattle.ground_model.specs.Table.{numbered, least_where}
use Rattle.ground_model.specs.Content.{Content, after, lines_of, level_of}
use Rattle.ground_model.specs.Refusal.{refusal}
use Rattle.ground_model.proofs.Elements.{In, each_at, in_map}
use Rattle.ground_model.proofs.Planar.{is_point-keys}
use Rattle.predicates.specs.Net.{Triangle}
use Rattle.cdt_law.specs.Plans.{IsRight, renewed}
use Rattle.cdt_law.specs.StalePlan.{Stale, IsFresh, content_at, plan_at}
use Rattle.cdt_law.specs.Limits.{HaveMeshes, LimitLaw}
use Rattle.cdt_law.proofs.Able.{Able}
use Rattle.cdt_law.proofs.PlanLaw.{right-where-apt, set-level}
use Rattle.cdt_law.proofs.StalePlans.{planar-taken, stands-at, apt-at}
use Rattle.cdt_law.proofs.LimitCauses.{OnlyLimits, added-only, removed-only, line-only, taken-only}
use Rattle.cdt_law.proofs.NoCrossings.{find-none, no-joint, no-self-cross, no-crossed-line}
use Rattle.cdt_law.proofs.StillAble.{stale_of, still-free, still-able}
use Rattle.cdt_law.proofs.StillLines.{its-long, places-there, still-on-points, still-line}

-- where each passes, none is placed that doesn't
none-placed : {X : Type 0} (test : X → Bool) (n : ℕ) (xs : List X) → ((x : X) → In x xs → test x ≡ true) → position_from (λ x. not (test x)) n xs ≡ None
none-placed test n [] h = refl
none-placed test n (x ∷ xs) h = ap (λ t. cond (not t) (Some n) (position_from (λ x. not (test x)) (n + 1) xs)) (h x (inl refl)) ∙ none-placed test (n + 1) xs (λ y i. h y (inr i))

module _ (limits : Limits) (h : List Entry) (b : ℕ) (before planned : List Triangle) (now : ℕ → List Triangle) where
  abbrev front : Content
  front = content_at h (length h)

  abbrev stale : Edit → Stale
  stale edit = stale_of limits h b before planned now edit

  all : length h ≤ length h
  all = omega arith

  -- where it can be made, the plan is right at the front
  right : (edit : Edit) → IsFresh limits (stale edit) → HaveMeshes (stale edit) now → Able front edit → IsRight (plan_at (stale edit) (length h) (now (length h)))
  right edit f m able =
      right-where-apt (plan_at (stale edit) (length h) (now (length h))) (m (length h) f.within all) (apt-at limits (stale edit) f (length h) f.within all (now (length h)) able)
      (stands-at limits (stale edit) f (length h) f.within all (now (length h)))

  add-point : (p : Coords) (z : ℤ) → IsFresh limits (stale (AddPoint p z)) → HaveMeshes (stale (AddPoint p z)) now → OnlyLimits (refusal front (length h) limits (AddPoint p z))
  add-point p z f m = added-only front (length h) limits p z (none (level_of front p) (sym (is_point-keys front.points p) ∙ still-free limits h b before planned now p z f m))
    where
      none : (o : Option ℤ) → is_some o ≡ false → o ≡ None
      none None e = refl
      none (Some y) e = cc

  remove-point : (p : Coords) → IsFresh limits (stale (RemovePoint p)) → HaveMeshes (stale (RemovePoint p)) now → OnlyLimits (refusal front (length h) limits (RemovePoint p))
  remove-point p f m = removed-only front (length h) limits p (sym (is_point-keys front.points p) ∙ able.0) unheld (no-joint (after front (RemovePoint p)) (renewed (plan_at (stale (RemovePoint p)) (length h) (now (length h)))) (right (RemovePoint p) f m able).mesh)
    where
      able : Able front (RemovePoint p)
      able = still-able limits h b before planned now p f m

      unheld : least_where (has_place p) front.table ≡ None
      unheld = ap (λ o. option_map (λ found. found.0) o) (find-none (λ entry. has_place p entry.1) (numbered front.table)
          (λ e i. each_at (λ line. has_place p line ≡ false) (lines_of front) e.1 able.1 (in_map (λ e. e.1) (numbered front.table) e i)))

  add-line : (kind : LineKind) (places : List Coords) → IsFresh limits (stale (AddLine kind places)) → HaveMeshes (stale (AddLine kind places)) now → OnlyLimits (refusal front (length h) limits (AddLine kind places))
  add-line kind places f m =
      line-only front (length h) limits kind places (its-long limits h b before planned now kind places f m)
      (none-placed (λ p. finmap.contains_key front.points p) 1 places (λ v i. sym (is_point-keys front.points v) ∙ places-there limits h b before planned now kind places f m v i))
      (no-self-cross front (planar-taken limits h (length h) f.legal) kind places (renewed (plan_at (stale (AddLine kind places)) (length h) (now (length h)))) r.mesh)
      (no-crossed-line front (planar-taken limits h (length h) f.legal) kind places (renewed (plan_at (stale (AddLine kind places)) (length h) (now (length h)))) r.mesh)
    where
      r : IsRight (plan_at (stale (AddLine kind places)) (length h) (now (length h)))
      r = right (AddLine kind places) f m (still-on-points limits h b before planned now kind places f m)

  remove-line : (id : LineId) → IsFresh limits (stale (RemoveLine id)) → HaveMeshes (stale (RemoveLine id)) now → OnlyLimits (refusal front (length h) limits (RemoveLine id))
  remove-line id f m = taken-only front (length h) limits id (ap is_some (still-line limits h b before planned now id f m (length h) f.within all))

  by-kind : (edit : Edit) → IsFresh limits (stale edit) → HaveMeshes (stale edit) now → OnlyLimits (refusal front (length h) limits edit)
  by-kind (AddPoint p z) f m = add-point p z f m
  by-kind (RemovePoint p) f m = remove-point p f m
  by-kind (SetLevel p z) f m = absurd (set-level (content_at h b) front before planned (now (length h)) p z (stands-at limits (stale (SetLevel p z)) f (length h) f.within all (now (length h))))
  by-kind (AddLine kind places) f m = add-line kind places f m
  by-kind (RemoveLine id) f m = remove-line id f m

pub limit_law : LimitLaw
unfolding OnlyLimits
limit_law limits s now f m cause e = by-kind limits s.history s.pending.base s.before s.planned now s.pending.edit f m cause e
