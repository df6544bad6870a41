-- The list functions of the links and families. Assumes nothing.
use mathlib.Core.Path.{◌≡◌, refl}
use seplogic.Ra.Ura.{Ura}
use base.Logic.{SProp}
use prog.Memory.{Memory}
use prog.Routine.{Routine}
use types.Logic.{Logic}
use contract.Monad.{Fun}
use Rattle.family.specs.Link.{link_fun, link_inv, mu_eta}
use Rattle.family.specs.Family.{variance_of, initialize_mu}
use Rattle.family_lists.specs.Lists.{list_number, ListedEach, ListedDeviances}
use Rattle.family_lists.specs.Aic.{aic_answer}
use Rattle.family_lists.specs.contracts.link_fun_list as link-fun-list
use Rattle.family_lists.specs.contracts.link_inv_list as link-inv-list
use Rattle.family_lists.specs.contracts.mu_eta_list as mu-eta-list
use Rattle.family_lists.specs.contracts.variance_list as variance-list
use Rattle.family_lists.specs.contracts.initialize_mu_list as initialize-mu-list
use Rattle.family_lists.specs.contracts.dev_resid_list as dev-resid-list
use Rattle.family_lists.specs.contracts.aic as aic
use Rattle.family_lists.specs.contracts.list_number as list-number
use Rattle.promises.specs.Promise.{promise}

module _ {M : Type 1} {𝓤 : Ura M} (𝓛 : Logic 𝓤) (mem : Memory → SProp 𝓤) (run : Routine → Fun 𝓤) where
  pub link_fun_list_promised : link-fun-list.clauses 𝓛 mem run
      ≡ promise 𝓤 link-fun-list.ended (λ κs a r e. ListedEach (link_fun a.0) a.1.0.now a.1.1.0.now e.1.1.0.now r)
  link_fun_list_promised = refl

  pub link_inv_list_promised : link-inv-list.clauses 𝓛 mem run
      ≡ promise 𝓤 link-inv-list.ended (λ κs a r e. ListedEach (link_inv a.0) a.1.0.now a.1.1.0.now e.1.1.0.now r)
  link_inv_list_promised = refl

  pub mu_eta_list_promised : mu-eta-list.clauses 𝓛 mem run
      ≡ promise 𝓤 mu-eta-list.ended (λ κs a r e. ListedEach (mu_eta a.0) a.1.0.now a.1.1.0.now e.1.1.0.now r)
  mu_eta_list_promised = refl

  pub variance_list_promised : variance-list.clauses 𝓛 mem run
      ≡ promise 𝓤 variance-list.ended (λ κs a r e. ListedEach (variance_of a.0) a.1.0.now a.1.1.0.now e.1.1.0.now r)
  variance_list_promised = refl

  pub initialize_mu_list_promised : initialize-mu-list.clauses 𝓛 mem run
      ≡ promise 𝓤 initialize-mu-list.ended (λ κs a r e. ListedEach (initialize_mu a.0) a.1.0.now a.1.1.0.now e.1.1.0.now r)
  initialize_mu_list_promised = refl

  pub dev_resid_list_promised : dev-resid-list.clauses 𝓛 mem run
      ≡ promise 𝓤 dev-resid-list.ended (λ κs a r e. ListedDeviances a.0 a.1.0.now a.1.1.0.now a.1.1.1.0.now a.1.1.1.1.0.now e.1.1.1.1.0.now r)
  dev_resid_list_promised = refl

  pub aic_promised : aic.clauses 𝓛 mem run
      ≡ promise 𝓤 aic.ended (λ κs a r e. r ≡ aic_answer a.0 a.1.0.now a.1.1.0.now a.1.1.1.0.now a.1.1.1.1.0)
  aic_promised = refl

  pub list_number_promised : list-number.clauses 𝓛 mem run ≡ promise 𝓤 list-number.ended (λ κs a r e. r ≡ list_number a.0)
  list_number_promised = refl
