use Rattle.std.proofs.Common.{not, ap, ◌∙◌}
use Rattle.std.specs.Prelude.{nat_lt}
use Rattle.ynl_resource.specs.Amounts.{scale_floor}
use Rattle.ynl_resource.specs.Ranges.{whole}
use Rattle.ynl_model.specs.declared.uses.Use.{Use}
use Rattle.ynl_model.specs.Cluster.{counted, is_master}
use Rattle.ynl_model.specs.Limits.{master_limit}
use Rattle.ynl_search.proofs.limits.UserLimit.{limit_is}
use Rattle.ynl_search.proofs.Tests.{counted-some}
use Rattle.ynl_search.proofs.leaf.LeafTests.new.Goals as goal

pub returns-clause-tests : goal.returns-clause-tests
unfolding master_limit
returns-clause-tests c config s label free leaf is kept =
    record {
      headroom = is.headroom;
      limit =
          limit_is config s leaf label _
          (record {
            used = ap (λ (u : Use). u.used) kept.uses;
            guaranteed = is.guaranteed;
            users = kept.users;
            percent = c.number.ensures.value ∙ kept.percent;
            cap = c.cap_of.ensures ∙ (λ i. scale_floor (is.guaranteed i) (kept.factor i) 100);
          });
      masters = ap (λ (u : Use). u.masters) kept.uses;
      master_limit = c.share_of.ensures.value ∙ (λ i. scale_floor (is.most i) (kept.share i) whole);
      has_master = ap (λ (u : Use). not (nat_lt 0 u.master_count)) kept.uses ∙ ap not (counted-some is_master (counted s leaf label));
    }

pub returns-clause-limits : goal.returns-clause-limits
unfolding master_limit
returns-clause-limits c config s label leaf is kept =
    record {
      limit =
          limit_is config s leaf label _
          (record {
            used = ap (λ (u : Use). u.used) kept.uses;
            guaranteed = is.guaranteed;
            users = kept.users;
            percent = c.number.ensures.value ∙ kept.percent;
            cap = c.cap_of.ensures ∙ (λ i. scale_floor (is.guaranteed i) (kept.factor i) 100);
          });
      masters = ap (λ (u : Use). u.masters) kept.uses;
      master_limit = c.share_of.ensures.value ∙ (λ i. scale_floor (is.most i) (kept.share i) whole);
      has_master = ap (λ (u : Use). not (nat_lt 0 u.master_count)) kept.uses ∙ ap not (counted-some is_master (counted s leaf label));
    }
