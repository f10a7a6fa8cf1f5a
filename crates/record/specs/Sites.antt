-- Which numbers are sites (01, 'Numbers that bound it').
-- Assumes nothing.
use Rattle.std.specs.Prelude.{ℕ, ◌≡◌, ◌≤◌, Result, Ok, Err}
use Rattle.record.specs.declared.site.Site.{Site}
use Rattle.record.specs.declared.site.NoSite.{NoSite}

-- "Site: 1 to 16", and "site not 1 to 16" otherwise
abbrev pub SiteOf : ℕ → Result Site NoSite → Type 0
SiteOf n (Ok site) = site.number ≡ n
SiteOf n (Err _) = (1 ≤ n) × (n ≤ 16) → ⊥
