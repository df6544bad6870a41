-- The settings of a call by the codes of a job. Document 01, "The job and the program", its header, and "Numbers of an answer", number 4; document 02, P10, for the start. Assumes nothing.
use Rattle.std.specs.Prelude.{Option, Some, None}
use Rattle.model.specs.Names.{family_coded, link_coded, start_coded}
use Rattle.model.specs.declared.names.Family.{Family}
use Rattle.model.specs.declared.names.Family.TheVariants.{Poisson}
use Rattle.model.specs.declared.names.Link.{Link}
use Rattle.model.specs.declared.names.Link.TheVariants.{Logit}
use Rattle.model.specs.declared.names.Start.{Start}
use Rattle.model.specs.declared.names.Start.TheVariants.{Usual}
use Rattle.model.specs.declared.sizes.Settings.{Settings}
use Rattle.job.specs.Job.{limit_from}
use Rattle.blocks_coded.specs.declared.CodedSettings.{CodedSettings}

-- the settings of a family, a link and a start
unfoldable pub named : CodedSettings → Family → Link → Start → Settings
named c f l start =
    record {
      family = f;
      link = l;
      n_agq = c.n_agq;
      limit = limit_from c.limit;
      n = c.n;
      p = c.p;
      rows = c.rows;
      entries = c.entries;
      start = start;
    }

-- of a code without a name: logit is no link of the Poisson family, so the table refuses with 4, in its order
abbrev pub unnamed : CodedSettings → Settings
unnamed c = named c Poisson Logit Usual

-- by what the start's code names
unfoldable pub with_start : CodedSettings → Family → Link → Option Start → Settings
with_start c f l (Some start) = named c f l start
with_start c f l None = unnamed c

-- by what the link's code names
unfoldable pub with_link : CodedSettings → Family → Option Link → Settings
with_link c f (Some l) = with_start c f l (start_coded c.start)
with_link c f None = unnamed c

-- by what the family's code names
unfoldable pub with_family : CodedSettings → Option Family → Settings
with_family c (Some f) = with_link c f (link_coded c.link)
with_family c None = unnamed c

-- the settings
unfoldable pub settings_of : CodedSettings → Settings
settings_of c = with_family c (family_coded c.family)
