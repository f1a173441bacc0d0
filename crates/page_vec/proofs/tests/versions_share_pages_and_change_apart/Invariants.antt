use Rattle.page_vec.proofs.tests.versions_share_pages_and_change_apart.Given as goal

abbrev pub ghosts-change_versions : goal.ghosts-change_versions
ghosts-change_versions _ a = record { name = a.blank.name; parts = a.blank.parts }
